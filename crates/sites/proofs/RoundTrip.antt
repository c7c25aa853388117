-- Sites and their bytes: what is written is read back, and what is read is written again.
use Prim.Native.Nat.{ℕ, suc, ◌+◌, ◌/◌, ◌%◌, ◌≤◌, ◌<◌}
use mathlib.Core.Path.{◌≡◌, refl, sym, subst, ◌∙◌}
use mathlib.Core.Bool.{true}
use mathlib.Core.List.{List, [], ◌∷◌, ◌++◌}
use native.Mathlib.Omega.{arith}
use lib.ListN.{length, get_or}
use lib.Seq.{slice}
use lib.Dec.{ltb, eqb}
use borrow.Author.Tests.{lt-ltb, le-ltb, eqb-true}
use Rattle.std.specs.Int.{w16, w64, from_le_bytes}
use Rattle.common.specs.Numbers.{Bytes, bytes_of, number_of}
use Rattle.common.proofs.Bools.{and_left, and_right}
use Rattle.common.proofs.Choices.{by_test}
use Rattle.common.proofs.Lists.{reads, reads_slice, reads_all}
use Rattle.common.proofs.LittleEndian.{from_16}
use Rattle.common.proofs.Numbers.{number_back, bytes_back, bytes_drop}
use Rattle.sites.specs.Sites.{good_offset, good_site, site_bytes, extended, site_in, is_site}
use Rattle.sites.specs.declared.Site.{Site}
use Rattle.sites.proofs.Good.{good_offset_lem, good_site_lem}

-- a site's bytes are 8
pub site_bytes_length : (s : Site) → length (site_bytes s) ≡ 8
unfolding site_bytes
site_bytes_length s = refl

-- ---- what is written is read back

-- the two lowest bytes of a good offset, their sign extended, are the offset
offset_back : (n : ℕ) → good_offset n ≡ true → extended (number_of (bytes_of 2 n)) ≡ n
offset_back n h =
    good_offset_lem n h
    (λ l. let e : number_of (bytes_of 2 n) ≡ n = omega arith in rw (e, lt-ltb n 32768 (omega arith)))
    (λ l m. rw (le-ltb (number_of (bytes_of 2 n)) 32768 (omega arith)) (omega arith))

pub site_back : (s : Site) → good_site s ≡ true → site_in (site_bytes s) ≡ s
unfolding site_in site_bytes
site_back s h =
    let g = good_site_lem s h in
    rw (offset_back s.offset g.0, number_back 6 s.second (omega (arith, g.1)))

-- the bytes of a good site are no damaged site
pub site_is_back : (s : Site) → good_site s ≡ true → is_site (site_bytes s) ≡ true
unfolding is_site
site_is_back s h = rw (site_bytes_length s, site_back s h, h)

-- ---- what is read is written again

-- bytes that are no damaged site are 8, and stand for a good one
pub site_tests : (b : List ℕ) → is_site b ≡ true → (length b ≡ 8) × (good_site (site_in b) ≡ true)
unfolding is_site
site_tests b h =
    let long = eqb (length b) 8 in
    (eqb-true (length b) 8 (and_left long (good_site (site_in b)) h), and_right long (good_site (site_in b)) h)

pair_back : (x y : ℕ) → x < 256 → y < 256 → bytes_of 2 (extended (number_of (x ∷ y ∷ []))) ≡ x ∷ y ∷ []
pair_back x y h k =
    let n = number_of (x ∷ y ∷ []) in
    by_test (ltb n 32768) (λ t. rw t (same n (omega arith) (omega arith)))
    (λ f. rw f (same (n + 4294901760) (omega arith) (omega arith)))
  where
    same : (n : ℕ) → n % 256 ≡ x → n / 256 % 256 ≡ y → bytes_of 2 n ≡ x ∷ y ∷ []
    same n e f = rw (e, f)

-- any eight bytes are those of the site that they stand for
pub bytes_of_site : (b : List ℕ) → Bytes b → length b ≡ 8 → site_bytes (site_in b) ≡ b
unfolding site_in site_bytes
bytes_of_site b g l =
    let e = reads_all b 8 l in
    let r : Bytes (reads b 2 6) = bytes_drop 2 (reads b 0 8) (subst Bytes (sym e) g) in
    subst (λ (x : List ℕ). site_bytes (site_in x) ≡ x) e
    (both (pair_back (get_or b 0 0) (get_or b 1 0) (g 0) (g 1)) (bytes_back (reads b 2 6) r))
  where
    both : {a b c d : List ℕ} → a ≡ c → b ≡ d → a ++ b ≡ c ++ d
    both p q = rw (p, q)

-- a site read from byte `at` on
pub site_read : (s : List ℕ) (at n offset second : ℕ) → at + 8 ≤ length s
    → n ≡ from_le_bytes w16 (get_or s at 0 ∷ get_or s (at + 1) 0 ∷ [])
    → offset ≡ extended n
    → second ≡ from_le_bytes w64 (get_or s (at + 2) 0 ∷ get_or s (at + 3) 0 ∷ get_or s (at + 4) 0 ∷ get_or s (at + 5) 0
    ∷ get_or s (at + 6) 0 ∷ get_or s (at + 7) 0 ∷ 0 ∷ 0 ∷ [])
    → record { offset = offset; second = second } ≡ site_in (slice at (at + 8) s)
unfolding site_in
site_read s at n offset second h e o k =
    let e1 : at + 1 ≡ suc at = omega arith in
    let e2 : at + 2 ≡ suc (suc at) = omega arith in
    let e3 : at + 3 ≡ suc (suc (suc at)) = omega arith in
    let e4 : at + 4 ≡ suc (suc (suc (suc at))) = omega arith in
    let e5 : at + 5 ≡ suc (suc (suc (suc (suc at)))) = omega arith in
    let e6 : at + 6 ≡ suc (suc (suc (suc (suc (suc at))))) = omega arith in
    let e7 : at + 7 ≡ suc (suc (suc (suc (suc (suc (suc at)))))) = omega arith in
    let q = rw (e2, e3, e4, e5, e6, e7) at k in
    let f : second ≡ number_of (reads s (suc (suc at)) 6) = q ∙ omega arith in
    let g : n ≡ number_of (reads s at 2) = (rw e1 at e) ∙ from_16 (get_or s at 0) (get_or s (suc at) 0) in
    rw (← reads_slice s at 8 h, f, o, g)
