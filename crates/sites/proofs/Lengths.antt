-- How long a site's text is.
use Prim.Native.Nat.{ℕ, ◌+◌, ◌≤◌}
use mathlib.Core.Path.{◌≡◌, refl}
use mathlib.Core.Bool.{true}
use native.Mathlib.Omega.{arith}
use lib.ListN.{length}
use Rattle.digits.specs.Digits.{decimal, decimal_in}
use Rattle.digits.proofs.Lengths.{decimal_le}
use Rattle.sites.specs.Sites.{good_site, last_second}
use Rattle.sites.specs.Texts.{offset_text, site_text}
use Rattle.sites.specs.declared.Site.{Site}
use Rattle.sites.proofs.Good.{good_site_lem}

-- sign hh:mm
pub offset_length : (n : ℕ) → length (offset_text n) ≡ 6
unfolding offset_text
offset_length n = refl

-- both fields with their TABs
pub site_length : (s : Site) → length (site_text s) ≡ 8 + length (decimal s.second)
unfolding site_text offset_text
site_length s = omega arith

-- no good site's text is longer than 23 bytes
pub site_text_le : (s : Site) → good_site s ≡ true → length (site_text s) ≤ 23
site_text_le s h = omega (arith, site_length s, decimal_le 14 s.second (omega (arith, (good_site_lem s h).1)))

-- the westernmost site with the last second
abbrev pub longest_site : Site
longest_site = record { offset = 4294966576; second = last_second }

-- its text has 23
pub site_text_reached : length (site_text longest_site) ≡ 23
unfolding site_text offset_text decimal_in
site_text_reached = refl
