-- What good settings say, and what is set.
use mathlib.Core.Path.{◌≡◌}
use mathlib.Core.Bool.{Bool, true, ◌&&◌}
use Prim.Native.Nat.{◌≤◌}
use lib.Dec.{leb}
use borrow.Author.Tests.{leb-true}
use Rattle.common.proofs.Bools.{and_left, and_right}
use Rattle.filters.specs.Filters.{mode_takes}
use Rattle.sites.specs.Sites.{good_site}
use Rattle.sites.specs.declared.Site.{Site}
use Rattle.settings.specs.Ranges.{good_shared, with_site}
use Rattle.settings.specs.declared.Shared.{Shared}

-- ---- TxMode

-- what is in range of good settings
module _ (s : Shared) (h : good_shared s ≡ true) where
  abbrev fields : Bool
  fields = leb s.mode 1 && leb s.format 2 && mode_takes s.mode s.format

  pub good_align : s.align ≤ 3
  unfolding good_shared
  good_align =
      leb-true s.align 3
      (and_right fields (leb s.align 3) (and_left (fields && leb s.align 3) (good_site s.site) h))

  pub site_in_range : good_site s.site ≡ true
  unfolding good_shared
  site_in_range = and_right (fields && leb s.align 3) (good_site s.site) h

  -- and they stay good with another site in range
  pub site_set_good : (site : Site) → good_site site ≡ true → good_shared (with_site s site) ≡ true
  unfolding good_shared
  site_set_good site g = rw (and_left (fields && leb s.align 3) (good_site s.site) h) g
