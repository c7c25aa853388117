-- Worked examples: offsets as text, a site's bytes and text, and numbers out of range.
use Prim.Native.Nat.{ℕ, ◌^◌}
use mathlib.Core.Path.{◌≡◌, refl}
use mathlib.Core.Bool.{true, false}
use mathlib.Core.List.{List, [], ◌∷◌, map}
use Rattle.digits.specs.Ascii.{ascii}
use Rattle.digits.specs.Digits.{decimal_in}
use Rattle.sites.specs.Sites.{good_offset, good_site, no_site, site_bytes, site_in, is_site}
use Rattle.sites.specs.Texts.{offset_text, site_text}
use Rattle.sites.specs.declared.Site.{Site}

-- zero, minus 90, the easternmost and the westernmost
pub offsets_as_text : map offset_text (0 ∷ 4294967206 ∷ 840 ∷ 4294966576 ∷ [])
    ≡ ascii "+00:00" ∷ ascii "-01:30" ∷ ascii "+14:00" ∷ ascii "-12:00" ∷ []
unfolding offset_text
offsets_as_text = refl

-- one minute west of UTC, tick zero at second 258
abbrev west : Site
west = record { offset = 4294967295; second = 258 }

abbrev west_bytes : List ℕ
west_bytes = 0xFF ∷ 0xFF ∷ 0x02 ∷ 0x01 ∷ 0 ∷ 0 ∷ 0 ∷ 0 ∷ []

pub west_written : site_bytes west ≡ west_bytes
unfolding site_bytes
west_written = refl

pub west_read : site_in west_bytes ≡ west
unfolding site_in
west_read = refl

pub west_printed : site_text west ≡ ascii "\t-00:01\t258"
unfolding site_text offset_text decimal_in
west_printed = refl

-- zeros
pub none_printed : site_text no_site ≡ ascii "\t+00:00\t0"
unfolding site_text offset_text decimal_in
none_printed = refl

-- one minute past each end, and one second past the last
pub out_of_range : map good_site (
    record { offset = 841; second = 0 } ∷ record { offset = 4294966575; second = 0 }
    ∷ record { offset = 0; second = 2 ^ 48 } ∷ [])
    ≡ false ∷ false ∷ false ∷ []
unfolding good_site good_offset
out_of_range = refl

-- at the ends
pub in_range : map good_site (
    record { offset = 840; second = 281474976710655 } ∷ record { offset = 4294966576; second = 0 } ∷ [])
    ≡ true ∷ true ∷ []
unfolding good_site good_offset
in_range = refl

-- 841 as bytes is damaged, as are seven bytes
pub damaged : map is_site (
    (0x49 ∷ 0x03 ∷ 0 ∷ 0 ∷ 0 ∷ 0 ∷ 0 ∷ 0 ∷ []) ∷ (0 ∷ 0 ∷ 0 ∷ 0 ∷ 0 ∷ 0 ∷ 0 ∷ []) ∷ [])
    ≡ false ∷ false ∷ []
unfolding is_site good_site good_offset site_in
damaged = refl
