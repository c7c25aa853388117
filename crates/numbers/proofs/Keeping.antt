-- What the scan has kept of a text's numbers where it stands, byte by byte.
use Prim.Native.Nat.{ℕ, suc, ◌+◌, ◌*◌, ◌^◌, ◌≤◌, ◌<◌, min}
use mathlib.Core.Path.{◌≡◌, refl, sym, ap, ap₂, ◌∙◌}
use mathlib.Core.List.{List, [], ◌∷◌, ◌++◌, map}
use native.Mathlib.Omega.{arith}
use lib.ListN.{length, get_or, drop, length-set, drop_of_length-le}
use lib.Seq.{sets, set_out}
use Rattle.digits.specs.Reading.{byte_kind, capped}
use Rattle.digits.specs.declared.reading.ByteKind.{ByteKind}
use Rattle.digits.specs.declared.reading.ByteKind.TheVariants.{Digit, Separator, End}
use Rattle.numbers.specs.Numbers.{Place, between, within, ended, grown, after}
use Rattle.numbers.specs.Numbers.{end_kind, digit_kind, numbers_from, numbers, before_end}
use Rattle.numbers.specs.Scan.{kept, kept_more, kept_from, kept_of, ScanMet}
use Rattle.numbers.specs.declared.Kept.{Kept}
use Rattle.common.specs.Choice.{pick}
use Rattle.numbers.proofs.Ends.{here, before_more}

-- ---- the numbers from a position on

-- behind the last byte
numbers_last : (p : Place) (t : List ℕ) (i : ℕ) → length t ≤ i → numbers_from p (drop i t) ≡ ended p
unfolding numbers_from
numbers_last p t i h = rw (drop_of_length-le t h)

-- at a byte of each kind
module _ (p : Place) (t : List ℕ) (i : ℕ) (h : i < length t) where
  numbers_end : byte_kind (get_or t i 0) ≡ End → numbers_from p (drop i t) ≡ ended p
  unfolding numbers_from
  numbers_end e = rw (here t i h, e)

  numbers_digit : (d : ℕ) → byte_kind (get_or t i 0) ≡ Digit d
      → numbers_from p (drop i t) ≡ numbers_from (grown p d) (drop (i + 1) t)
  unfolding numbers_from
  numbers_digit d e = rw (here t i h, e)

  numbers_separator : byte_kind (get_or t i 0) ≡ Separator
      → numbers_from p (drop i t) ≡ ended p ++ numbers_from between (drop (i + 1) t)
  unfolding numbers_from
  numbers_separator e = rw (here t i h, e)

-- ---- the numbers as they are kept

-- a number that is capped so far is capped in the end
same_capped : (v w : ℕ) → capped v ≡ capped w → (t : List ℕ)
    → map capped (numbers_from (within v) t) ≡ map capped (numbers_from (within w) t)
unfolding numbers_from
same_capped v w q [] = ap (λ (x : ℕ). x ∷ []) q
same_capped v w q (b ∷ t) =
    by (byte_kind b) (λ (d : ℕ). same_capped (v * 16 + d) (w * 16 + d) (omega arith) t)
  where
    at : Place → ByteKind → List ℕ
    at p k = pick (end_kind k) (ended p) (pick (digit_kind k) [] (ended p) ++ numbers_from (after p k) t)

    by : (k : ByteKind)
        → ((d : ℕ) → map capped (numbers_from (within (v * 16 + d)) t) ≡ map capped (numbers_from (within (w * 16 + d)) t))
        → map capped (at (within v) k) ≡ map capped (at (within w) k)
    by End more = ap (λ (x : ℕ). x ∷ []) q
    by Separator more = ap (λ (x : ℕ). x ∷ map capped (numbers_from between t)) q
    by (Digit d) more = more d

-- stores behind the last place
sets_out : (at : List ℕ) (n : ℕ) (xs : List ℕ) → length at ≤ n → sets at n xs ≡ at
sets_out at n [] h = refl
sets_out at n (x ∷ xs) h = rw (set_out at n x h) (sets_out at (suc n) xs (omega arith))

-- one number more
kept_more_lem : (k : Kept) (v : ℕ) (xs : List ℕ) → v ≤ 2 ^ 32 → k.count ≤ 11
    → kept_from k.at k.count (capped v ∷ xs) ≡ kept_from (kept_more k v).at (kept_more k v).count xs
unfolding kept_from
kept_more_lem k v xs h l =
    let c : capped v ≡ v = omega arith in
    let n : min 12 (k.count + 1) ≡ suc k.count = omega arith in
    let m : k.count + suc (length xs) ≡ suc k.count + length xs = omega arith in
    rw (c, n, m)

-- none more, or no room for more
kept_done : (k : Kept) → k.count ≤ 12 → kept_from k.at k.count [] ≡ k
unfolding kept_from
kept_done k h = let n : min 12 (k.count + 0) ≡ k.count = omega arith in ap (λ (m : ℕ). kept m k.at) n

kept_full : (k : Kept) (xs : List ℕ) → k.count ≡ 12 → length k.at ≡ 11 → kept_from k.at k.count xs ≡ k
unfolding kept_from
kept_full k xs h l =
    let n : min 12 (k.count + length xs) ≡ k.count = omega arith in
    ap₂ kept n (sets_out k.at k.count xs (omega arith))

-- ---- the scan

-- where the scan stands at place p before byte i, and has kept k: the numbers from there on are still to be kept,
-- and no end stands before
pub record Going (text : List ℕ) (p : Place) (k : Kept) (i : ℕ) : Type 0 where
  pub inside : i ≤ length text
  pub room : k.count ≤ 12
  pub size : length k.at ≡ 11
  pub more : kept_of (numbers text) ≡ kept_from k.at k.count (map capped (numbers_from p (drop i text)))
  pub clear : before_end text ≡ i + before_end (drop i text)

module _ {text : List ℕ} {k : Kept} {i : ℕ} where
  -- the scan goes on from j at place q, where as much is still to be kept
  on : {p : Place} → Going text p k i → (q : Place) (j : ℕ) → j ≤ length text
      → map capped (numbers_from p (drop i text)) ≡ map capped (numbers_from q (drop j text))
      → i + before_end (drop i text) ≡ j + before_end (drop j text) → Going text q k j
  on g q j l e f = record {
    inside = l;
    room = g.room;
    size = g.size;
    more = g.more ∙ ap (kept_from k.at k.count) e;
    clear = g.clear ∙ f;
  }

  -- the number read so far, capped
  cut : {v w : ℕ} → Going text (within v) k i → w ≡ capped v → Going text (within w) k i
  cut {v} {w} g e = on g (within w) i g.inside (same_capped v w (omega arith) (drop i text)) refl

module _ {text : List ℕ} {k : Kept} {i : ℕ} where
  -- a digit
  digit : {p : Place} → Going text p k i → (d : ℕ) → i < length text → byte_kind (get_or text i 0) ≡ Digit d
      → Going text (grown p d) k (i + 1)
  digit {p} g d h e =
      on g (grown p d) (i + 1) (omega arith) (ap (map capped) (numbers_digit p text i h d e))
      (omega (arith, before_more text i h (ap end_kind e)))

  module _ {b : ByteKind} (h : i < length text) (q : b ≡ byte_kind (get_or text i 0)) where
    -- a number's first digit, and a later one
    pub first_digit : {d : ℕ} → Going text between k i → b ≡ Digit d → Going text (within d) k (i + 1)
    first_digit {d} g e = digit g d h (sym q ∙ e)

    pub next_digit : {v d w : ℕ} → Going text (within v) k i → b ≡ Digit d → w ≡ capped (v * 16 + d)
        → Going text (within w) k (i + 1)
    next_digit {d = d} g e c = cut (digit g d h (sym q ∙ e)) c

    -- a separator between two numbers
    pub separator : Going text between k i → b ≡ Separator → Going text between k (i + 1)
    separator g e =
        let f : byte_kind (get_or text i 0) ≡ Separator = sym q ∙ e in
        on g between (i + 1) (omega arith) (ap (map capped) (numbers_separator between text i h f))
        (omega (arith, before_more text i h (ap end_kind f)))

  -- a number is whole and kept, and the scan goes on from j
  module _ {v : ℕ} {m : Kept} (g : Going text (within v) k i) (small : v ≤ 2 ^ 32) (free : k.count ≤ 11)
      (kept_now : m ≡ kept_more k v) where
    whole : (j : ℕ) → j ≤ length text → numbers_from (within v) (drop i text) ≡ v ∷ numbers_from between (drop j text)
        → i + before_end (drop i text) ≡ j + before_end (drop j text) → Going text between m j
    whole j l e f = rw kept_now (record {
      inside = l;
      room = omega arith;
      size = length-set k.at k.count v ∙ g.size;
      more = g.more
          ∙ ap (λ (l : List ℕ). kept_from k.at k.count (map capped l)) e
          ∙ kept_more_lem k v (map capped (numbers_from between (drop j text))) small free;
      clear = g.clear ∙ f;
    })

    -- behind the last byte, behind a separator, or at an end
    pub whole_last : length text ≤ i → Going text between m i
    whole_last l =
        whole i g.inside (numbers_last (within v) text i l
        ∙ ap (λ (r : List ℕ). v ∷ r) (sym (numbers_last between text i l))) refl

    module _ {b : ByteKind} (h : i < length text) (q : b ≡ byte_kind (get_or text i 0)) where
      pub whole_separator : b ≡ Separator → Going text between m (i + 1)
      whole_separator e =
          let f : byte_kind (get_or text i 0) ≡ Separator = sym q ∙ e in
          whole (i + 1) (omega arith) (numbers_separator (within v) text i h f)
          (omega (arith, before_more text i h (ap end_kind f)))

      pub whole_end : b ≡ End → Going text between m i
      whole_end e =
          let f : byte_kind (get_or text i 0) ≡ End = sym q ∙ e in
          whole i g.inside (numbers_end (within v) text i h f
          ∙ ap (λ (r : List ℕ). v ∷ r) (sym (numbers_end between text i h f))) refl

  -- the scan is over
  module _ (g : Going text between k i) where
    met : (xs : List ℕ) → numbers_from between (drop i text) ≡ xs → kept_from k.at k.count (map capped xs) ≡ k
        → ScanMet text (record { kept = k; stop = i })
    met xs e f = record {
      kept = sym (g.more ∙ ap (λ (l : List ℕ). kept_from k.at k.count (map capped l)) e ∙ f);
      inside = g.inside;
      clear = g.clear;
    }

    -- behind the last byte, at an end, or with twelve numbers kept
    pub met_last : length text ≤ i → ScanMet text (record { kept = k; stop = i })
    met_last l = met [] (numbers_last between text i l) (kept_done k g.room)

    pub met_end : {b : ByteKind} → i < length text → b ≡ byte_kind (get_or text i 0) → b ≡ End
        → ScanMet text (record { kept = k; stop = i })
    met_end h q e = met [] (numbers_end between text i h (sym q ∙ e)) (kept_done k g.room)

    pub met_full : k.count ≡ 12 → ScanMet text (record { kept = k; stop = i })
    met_full e =
        met (numbers_from between (drop i text)) refl (kept_full k (map capped (numbers_from between (drop i text)))
        e g.size)
