-- What it says of a site's two numbers that they are in range.
use Prim.Native.Nat.{ℕ, ◌≤◌, ◌<◌}
use mathlib.Core.Path.{◌≡◌, refl}
use mathlib.Core.Bool.{true}
use lib.Dec.{ltb, leb}
use borrow.Author.Tests.{ltb-true, leb-true}
use Rattle.common.proofs.Bools.{and_left, and_right}
use Rattle.common.proofs.Choices.{by_test}
use Rattle.sites.specs.Sites.{good_offset, last_second, good_site, no_site}
use Rattle.sites.specs.declared.Site.{Site}

-- a good offset is one of 0 to 840, or one of the 720 largest 32-bit numbers
pub good_offset_lem : {P : Type 0} (n : ℕ) → good_offset n ≡ true → (n ≤ 840 → P) → (4294966576 ≤ n → n < 4294967296 → P)
    → P
unfolding good_offset
good_offset_lem n h east west =
    let a = leb 4294966576 n in
    let b = ltb n 4294967296 in
    by_test (leb n 840) (λ t. east (leb-true n 840 t))
    (λ f. west (leb-true 4294966576 n (and_left a b (rw f at h))) (ltb-true n 4294967296 (and_right a b (rw f at h))))

-- both numbers of a good site are in range
pub good_site_lem : (s : Site) → good_site s ≡ true → (good_offset s.offset ≡ true) × (s.second ≤ last_second)
unfolding good_site
good_site_lem s h =
    let a = good_offset s.offset in
    let b = leb s.second last_second in
    (and_left a b h, leb-true s.second last_second (and_right a b h))

-- zeros are in range
pub no_site_good : good_site no_site ≡ true
unfolding good_site good_offset
no_site_good = refl
