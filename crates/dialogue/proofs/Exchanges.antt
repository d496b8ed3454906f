-- Exchanges, and one more; and exchanges in two parts.
use Rattle.std.proofs.Common.{◌≡◌, ◌∙◌, ℕ, inl, List, [], ◌∷◌, ◌++◌, refl, sym, ap, subst, append_assoc, append-nil}
use Rattle.io_edge.specs.Lines.{TextLine}
use Rattle.dialogue.specs.Manner.{Manner}
use Rattle.dialogue.specs.Dialogue.{AreExchanged, AreWhole, BeginWith, BeginWithAll, Exchange, IsRequest, calls_in, lines_in, text_in}

module _ (m : Manner) where
  pub exchanged-more : (first between after : m.Kept) (xs : List (Exchange m.Call m.Reply)) (x : Exchange m.Call m.Reply)
      → AreExchanged m first xs between → m.Answers between x.request x.calls x.reply after
      → AreExchanged m first (xs ++ x ∷ []) after
  exchanged-more first between after [] x h a =
      (after, subst (λ (k : m.Kept). m.Answers k x.request x.calls x.reply after) h a, refl)
  exchanged-more first between after (y ∷ ys) x h a =
      (h.0, h.1, exchanged-more h.0 between after ys x h.2 a)

  pub whole-more : (xs : List (Exchange m.Call m.Reply)) (x : Exchange m.Call m.Reply) → AreWhole m xs → IsRequest m x.request
      → AreWhole m (xs ++ x ∷ [])
  whole-more [] x h r = (r, tt)
  whole-more (y ∷ ys) x h r = (h.0, whole-more ys x h.1 r)

  pub calls-more : (xs : List (Exchange m.Call m.Reply)) (x : Exchange m.Call m.Reply) → calls_in m (xs ++ x ∷ []) ≡ calls_in m xs ++ x.calls
  calls-more [] x = append-nil x.calls
  calls-more (y ∷ ys) x = ap (λ (l : List m.Call). y.calls ++ l) (calls-more ys x)
      ∙ sym (append_assoc y.calls (calls_in m ys) x.calls)

  pub text-more : (xs : List (Exchange m.Call m.Reply)) (x : Exchange m.Call m.Reply)
      → text_in m (xs ++ x ∷ []) ≡ text_in m xs ++ m.text_of x.reply
  text-more [] x = append-nil (m.text_of x.reply)
  text-more (y ∷ ys) x = ap (λ (l : List ℕ). m.text_of y.reply ++ l) (text-more ys x)
      ∙ sym (append_assoc (m.text_of y.reply) (text_in m ys) (m.text_of x.reply))

  pub lines-more : (xs : List (Exchange m.Call m.Reply)) (x : Exchange m.Call m.Reply)
      → lines_in m (xs ++ x ∷ []) ≡ lines_in m xs ++ x.request
  lines-more [] x = append-nil x.request
  lines-more (y ∷ ys) x = ap (λ (l : List TextLine). y.request ++ l) (lines-more ys x)
      ∙ sym (append_assoc y.request (lines_in m ys) x.request)

  -- whole requests are the first ones, whatever is left
  pub begin-all : (xs : List (Exchange m.Call m.Reply)) (lines left : List TextLine) → AreWhole m xs → lines ≡ lines_in m xs ++ left
      → BeginWithAll m lines xs left
  begin-all [] lines left h e = e
  begin-all (x ∷ xs) lines left h e = (
    lines_in m xs ++ left,
    (e ∙ append_assoc x.request (lines_in m xs) left, inl h.0),
    begin-all xs (lines_in m xs ++ left) left h.1 refl,
  )

  -- and another request
  pub begin-more : (xs : List (Exchange m.Call m.Reply)) (x : Exchange m.Call m.Reply) (lines mid left : List TextLine)
      → BeginWithAll m lines xs mid → BeginWith m mid x.request left → BeginWithAll m lines (xs ++ x ∷ []) left
  begin-more [] x lines mid left b n = (left, subst (λ (l : List TextLine). BeginWith m l x.request left) (sym b) n, refl)
  begin-more (y ∷ ys) x lines mid left b n = (b.0, b.1, begin-more ys x b.0 mid left b.2 n)

  -- a dialogue in two parts
  pub exchanged-parts : (start kept : m.Kept) (xs ys : List (Exchange m.Call m.Reply)) → AreExchanged m start (xs ++ ys) kept
      → (between : m.Kept) × AreExchanged m start xs between × AreExchanged m between ys kept
  exchanged-parts start kept [] ys h = (start, refl, h)
  exchanged-parts start kept (x ∷ xs) ys h =
      let r = exchanged-parts h.0 kept xs ys h.2 in (r.0, (h.0, h.1, r.1), r.2)

  pub calls-parts : (xs ys : List (Exchange m.Call m.Reply)) → calls_in m (xs ++ ys) ≡ calls_in m xs ++ calls_in m ys
  calls-parts [] ys = refl
  calls-parts (x ∷ xs) ys = ap (λ (l : List m.Call). x.calls ++ l) (calls-parts xs ys)
      ∙ sym (append_assoc x.calls (calls_in m xs) (calls_in m ys))
