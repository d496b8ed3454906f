use Rattle.session_run.proofs.Ending.{any_listing, ended_said, listed_broken, unreturned}
use Rattle.session_run.proofs.Joined.{uses-more}
use Rattle.session_run.proofs.Listed.{still_held}
use Rattle.session_run.proofs.search.list.Goals as goal

pub returns-in-Err : goal.returns-in-Err
returns-in-Err g c = listed_broken c.in-Err.stop c.in-Err.ensures

pub give_back-requires : goal.give_back-requires
give_back-requires g c =
    let l = any_listing c.in-Ok.whole c.in-Ok.ensures in
    still_held g.S.Service l.3 c.requires.held

pub returns-in-Ok-give_back : goal.returns-in-Ok-give_back
returns-in-Ok-give_back g c =
    ended_said (λ xs ys a b. uses-more g.met.S.Service.joins g.met.S.Service.lands g.met.S.Service.same a b)
    c.in-Ok.whole c.end-end.result c.last_line.result c.say.result c.in-Ok.ensures c.in-Ok-give_back.ensures
    c.end-end.ensures.some c.last_line.ensures c.say.ensures

pub returns-in-Err-give_back : goal.returns-in-Err-give_back
returns-in-Err-give_back g c =
    unreturned (λ xs ys a b. uses-more g.met.S.Service.joins g.met.S.Service.lands g.met.S.Service.same a b)
    c.list_all.new.self.search.slot c.in-Ok.whole c.in-Err-give_back.stop c.in-Ok.ensures c.in-Err-give_back.ensures
