-- For private clauses alone: the first words of lines that go on after them.
use Rattle.std.specs.Prelude.{ℕ, List, codes}
use Rattle.shell_lang.specs.declared.word.Word.{Word}
use Rattle.shell_lang.specs.declared.word.Word.TheVariants as words

abbrev pub word_text : Word → List ℕ
word_text words.Register = codes "register"
word_text words.RegisterNew = codes "register-new"
word_text words.Revise = codes "revise"
word_text words.RegisterMol = codes "register-mol"
word_text words.ReviseMol = codes "revise-mol"
word_text words.RegisterSd = codes "register-sd"
word_text words.Withdraw = codes "withdraw"
word_text words.Show = codes "show"
word_text words.Data = codes "data"
word_text words.Search = codes "search"
word_text words.Same = codes "same"
word_text words.Similar = codes "similar"
word_text words.Open = codes "open"
word_text words.Next = codes "next"
word_text words.Close = codes "close"
word_text words.Watch = codes "watch"
word_text words.Hits = codes "hits"
word_text words.Unwatch = codes "unwatch"
