-- The numbers kept are judged as all the numbers of the text are.
use Prim.Native.Nat.{ℕ, suc, ◌+◌, ◌-◌, ◌≤◌, ◌<◌, min}
use mathlib.Core.Path.{◌≡◌, refl, sym, ap, ◌∙◌}
use mathlib.Core.List.{List, [], ◌∷◌, ◌++◌, map}
use mathlib.Core.Bool.{not}
use native.Mathlib.Omega.{arith}
use borrow.Author.Tests.{lt-ltb, le-ltb, ltb-true, ltb-false, not-false}
use lib.Dec.{ltb}
use lib.ListN.{length, replicate, length-map}
use Rattle.std.specs.Prelude.{Result, Ok}
use Rattle.common.specs.declared.refusals.Refusal.{Refusal}
use Rattle.common.proofs.Choices.{by_test, pick_same}
use Rattle.ids.specs.Ids.{raw_of, is_bad}
use Rattle.ids.specs.Frames.{carried}
use Rattle.ids.specs.declared.Header.{Header}
use Rattle.messages.specs.declared.Message.{Message}
use Rattle.ids.proofs.Frames.{carried_le}
use Rattle.digits.specs.Reading.{capped}
use Rattle.digits.proofs.Capped.{ltb_capped}
use Rattle.message_text.specs.Reading.{parsed_header, all_bytes, judged_data, judged, read_message, used_of}
use Rattle.numbers.specs.Numbers.{numbers, before_end}
use Rattle.numbers.specs.Scan.{kept_from, kept_of}
use Rattle.numbers.specs.declared.Kept.{Kept}
use Rattle.message_text.proofs.Ids.{raw_capped}
use Rattle.message_text.proofs.Data.{padded, padded_one, padded_bytes, padded_take}

-- twelve stand for any number above eleven
below_min : (m n : ℕ) → m ≤ 12 → ltb (min 12 n) m ≡ ltb n m
below_min m n h =
    by_test (ltb n m)
    (λ e. let l : n < m = ltb-true n m e in lt-ltb (min 12 n) m (omega arith) ∙ sym e)
    (λ e. let l : m ≤ n = ltb-false n m e in le-ltb (min 12 n) m (omega arith) ∙ sym e)

above_min : (n : ℕ) → ltb 11 (min 12 n) ≡ ltb 11 n
above_min n =
    by_test (ltb 11 n)
    (λ e. let l : 11 < n = ltb-true 11 n e in lt-ltb 11 (min 12 n) (omega arith) ∙ sym e)
    (λ e. let l : n ≤ 11 = ltb-false 11 n e in le-ltb 11 (min 12 n) (omega arith) ∙ sym e)

-- the message with these data
abbrev with_data : Header → List ℕ → Result Message Refusal
with_data h d = Ok (record { header = h; bytes = d })

-- numbers of which at least three are kept
module _ (a b c : ℕ) (values : List ℕ) where
  same_data : (h : Header) (x y z : ℕ)
      → judged_data h (min 12 (length (a ∷ b ∷ c ∷ values))) (x ∷ y ∷ z ∷ padded 8 values)
      ≡ judged_data h (length (a ∷ b ∷ c ∷ values)) (a ∷ b ∷ c ∷ values)
  unfolding judged_data
  same_data h x y z =
      let n = length (a ∷ b ∷ c ∷ values) in
      rw (below_min (3 + carried h) n (omega (arith, carried_le h)), above_min n)
      (pick_same (ltb n (3 + carried h)) (λ e. refl)
      (λ e. pick_same (ltb 11 n) (λ f. refl)
      (λ f.
      let l : length values ≤ 8 = omega (arith, ltb-false 11 n f) in
      rw (padded_bytes 8 values l)
      (pick_same (not (all_bytes values)) (λ g. refl)
      (λ g.
      ap (λ (d : List ℕ). with_data h (d ++ replicate (8 - carried h) 0))
      (padded_take 8 (carried h) values (omega (arith, ltb-false n (3 + carried h) e)) l
      (not-false (all_bytes values) g)))))))

  same_judged : (align format : ℕ)
      → judged align format (min 12 (length (a ∷ b ∷ c ∷ values)))
      (capped a ∷ capped b ∷ capped c ∷ padded 8 values)
      ≡ judged align format (length (a ∷ b ∷ c ∷ values)) (a ∷ b ∷ c ∷ values)
  unfolding judged
  same_judged align format =
      let n = length (a ∷ b ∷ c ∷ values) in
      rw (
        below_min 3 n (omega arith),
        raw_capped align format a,
        ltb_capped 1 b (omega arith),
        ltb_capped 15 c
            (omega arith),
      )
      (pick_same (ltb n 3) (λ e. refl)
      (λ e. pick_same (is_bad (raw_of align format a)) (λ e. refl)
      (λ e. pick_same (ltb 1 b) (λ e. refl)
      (λ p. pick_same (ltb 15 c) (λ e. refl)
      (λ q.
      let r : capped b ≡ b = omega (arith, ltb-false 1 b p) in
      let d : capped c ≡ c = omega (arith, ltb-false 15 c q) in
      rw (r, d) (same_data (parsed_header align format (a ∷ b ∷ c ∷ values)) (capped a) b c))))))

-- the numbers kept say what all the numbers say
kept_judged : (align format : ℕ) (values : List ℕ)
    → judged align format (kept_of values).count (kept_of values).at ≡ judged align format (length values) values
unfolding kept_from judged
kept_judged align format [] = refl
kept_judged align format (a ∷ []) = refl
kept_judged align format (a ∷ b ∷ []) = refl
kept_judged align format (a ∷ b ∷ c ∷ values) =
    let n : 0 + suc (suc (suc (length (map capped values)))) ≡ suc (suc (suc (length values))) =
    omega (arith, length-map values capped) in
    rw (n, three) (same_judged a b c values align format)
  where
    three : padded 11 (a ∷ b ∷ c ∷ values) ≡ capped a ∷ capped b ∷ capped c ∷ padded 8 values
    three =
        padded_one 10 a (b ∷ c ∷ values)
        ∙ ap (λ (l : List ℕ). capped a ∷ l) (padded_one 9 b (c ∷ values)
        ∙ ap (λ (l : List ℕ). capped b ∷ l) (padded_one 8 c values))

-- so a text with an end says what was judged of the numbers kept
pub text_judged : (align format : ℕ) (t : List ℕ) (k : Kept) {said : Result Message Refusal} {used : ℕ}
    → before_end t < length t → k ≡ kept_of (numbers t) → used ≡ used_of t → said ≡ judged align format k.count k.at
    → record { said = said; used = used } ≡ read_message align format t
unfolding read_message
text_judged align format t k h e u j =
    rw (j, u, e, lt-ltb (before_end t) (length t) h, kept_judged align format (numbers t))
