-- The bytes used: what follows them changes nothing, and there are some unless the text has no end.
use Prim.Native.Nat.{ℕ, zero, suc, ◌+◌, ◌≤◌, ◌<◌}
use mathlib.Core.Path.{◌≡◌, refl, sym, ap, ◌∙◌}
use mathlib.Core.List.{List, [], ◌∷◌, ◌++◌, append_assoc}
use native.Mathlib.Omega.{arith}
use borrow.Author.Tests.{lt-ltb, le-ltb}
use lib.ListN.{length, take, drop, length-append, length-drop}
use lib.Seq.{take-add, drop_at, length-take-le}
use Rattle.common.specs.Choice.{pick}
use Rattle.common.specs.Refusals.{number_in}
use Rattle.common.specs.declared.refusals.Refusal.TheVariants.{NoEnd}
use Rattle.common.proofs.Bools.{apart}
use Rattle.digits.specs.Reading.{byte_kind}
use Rattle.numbers.specs.Numbers.{Place, between, ended, after, is_end, is_digit, numbers_from, numbers, before_end}
use Rattle.numbers.specs.Numbers.{end_run}
use Rattle.message_text.specs.Reading.{used_of, read_message, refused}
use Rattle.common.proofs.Choices.{by_test, pick_is, pick_same}
use Rattle.message_text.proofs.Cases.{is_refusal, judged_is}

before_le : (t : List ℕ) → before_end t ≤ length t
unfolding before_end
before_le [] = omega arith
before_le (b ∷ t) = pick_is (λ n. n ≤ length (b ∷ t)) (is_end b) (λ e. omega arith) (λ e. omega (arith, before_le t))

run_le : (t : List ℕ) → end_run t ≤ length t
unfolding end_run
run_le [] = omega arith
run_le (b ∷ t) = pick_is (λ n. n ≤ length (b ∷ t)) (is_end b) (λ e. omega (arith, run_le t)) (λ e. omega arith)

-- no more bytes are used than the text has
pub used_inside : (text : List ℕ) → used_of text ≤ length text
used_inside text = omega (arith, before_le text, run_le (drop (before_end text) text), length-drop (before_end text) text)

-- the first end is the first of its run
run_some : (t : List ℕ) → before_end t < length t → 0 < end_run (drop (before_end t) t)
unfolding before_end end_run
run_some [] h = absurd (omega arith)
run_some (b ∷ t) h =
    by_test (is_end b)
    (λ e. rw (e, e) (omega arith))
    (λ e.
    let o : 1 + before_end t ≡ suc (before_end t) = omega arith in
    let l : 1 + before_end t < suc (length t) = rw e at h in
    rw (e, o) (run_some t (omega arith)))

-- ---- a text that is cut behind its first end, and goes on otherwise

module _ (more : List ℕ) where
  before_cut : (t : List ℕ) (n : ℕ) → before_end t < n → before_end t < length t
      → before_end (take n t ++ more) ≡ before_end t
  unfolding before_end
  before_cut [] n h l = absurd (omega arith)
  before_cut (b ∷ t) zero h l = absurd (omega arith)
  before_cut (b ∷ t) (suc n) h l =
      pick_same (is_end b) (λ e. refl) (λ e. ap (λ (k : ℕ). 1 + k)
      (before_cut t n (omega (arith, rw e at h)) (omega (arith, rw e at l))))

  numbers_cut : (p : Place) (t : List ℕ) (n : ℕ) → before_end t < n → before_end t < length t
      → numbers_from p (take n t ++ more) ≡ numbers_from p t
  unfolding before_end numbers_from
  numbers_cut p [] n h l = absurd (omega arith)
  numbers_cut p (b ∷ t) zero h l = absurd (omega arith)
  numbers_cut p (b ∷ t) (suc n) h l =
      pick_same (is_end b) (λ e. refl)
      (λ e. ap (λ (r : List ℕ). pick (is_digit b) [] (ended p) ++ r)
      (numbers_cut (after p (byte_kind b)) t n (omega (arith, rw e at h)) (omega (arith, rw e at l))))

  run_cut : end_run more ≡ 0 → (t : List ℕ) → end_run (take (end_run t) t ++ more) ≡ end_run t
  unfolding end_run
  run_cut s [] = s
  run_cut s (b ∷ t) =
      by_test (is_end b)
      (λ e. let o : 1 + end_run t ≡ suc (end_run t) = omega arith in
      rw (e, o, e) (ap (λ (k : ℕ). 1 + k) (run_cut s t) ∙ o))
      (λ e. rw e s)

-- the text with an end, cut behind the bytes used, and going on with bytes that do not begin with an end
module _ (text more : List ℕ) (has : before_end text < length text) (stop : end_run more ≡ 0) where
  abbrev cut : List ℕ
  cut = take (used_of text) text ++ more

  same_before : before_end cut ≡ before_end text
  same_before = before_cut more text (used_of text) (omega (arith, run_some text has)) has

  same_used : used_of cut ≡ used_of text
  same_used =
      let n = before_end text in
      let r = drop n text in
      let d : drop n cut ≡ take (end_run r) r ++ more
      = ap (drop n) (ap (λ (l : List ℕ). l ++ more) (take-add n (end_run r) text)
      ∙ append_assoc (take n text) (take (end_run r) r) more)
      ∙ drop_at (take n text) (take (end_run r) r ++ more) n (length-take-le n text (omega arith)) in
      rw (same_before, d) (ap (λ (k : ℕ). n + k) (run_cut more stop r))

  -- what follows the bytes used changes nothing: such a text says what the whole text says
  pub later : (align format : ℕ)
      → read_message align format (take (used_of text) text ++ more) ≡ read_message align format text
  unfolding read_message
  later align format =
      let l : length (take (used_of text) text) ≡ used_of text = length-take-le (used_of text) text (used_inside text) in
      let h : before_end cut < length cut =
      omega (arith, same_before, run_some text has, length-append (take (used_of text) text) more) in
      rw (
        lt-ltb (before_end cut) (length cut) h,
        lt-ltb (before_end text) (length text) has,
        same_used,
        numbers_cut more between text (used_of text) (omega (arith, run_some text has)) has,
      )

-- a text with no end is refused with 6, and 0 bytes are used
pub used_none : (align format : ℕ) (text : List ℕ) → before_end text ≡ length text
    → read_message align format text ≡ refused NoEnd 0
unfolding read_message
used_none align format text e = rw (le-ltb (before_end text) (length text) (omega arith))

-- every other text uses at least one byte, refused or not: through the run of ends
pub used_some : (align format : ℕ) (text : List ℕ) → before_end text < length text
    → ((read_message align format text).used ≡ used_of text) × (0 < used_of text)
unfolding read_message
used_some align format text has =
    (rw (lt-ltb (before_end text) (length text) has), omega (arith, run_some text has))

-- and 6 is not its number
pub six_none : (align format : ℕ) (text : List ℕ) → before_end text < length text
    → number_in (read_message align format text).said ≡ 6 → ⊥
unfolding read_message
six_none align format text has =
    rw (lt-ltb (before_end text) (length text) has)
    (judged_is (λ said. number_in said ≡ 6 → ⊥) align format (length (numbers text)) (numbers text)
    (λ why l e. apart (sym l ∙ ap is_refusal e)) (λ t e. omega arith))
