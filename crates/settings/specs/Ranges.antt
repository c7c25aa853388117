-- What all channels of a device share, in range or not; the format that 0 means (01, "Settings").
use Rattle.std.specs.Prelude.{ℕ, Bool, ◌&&◌, leb, eqb}
use Rattle.common.specs.Choice.{pick}
use Rattle.filters.specs.Filters.{mode_takes}
use Rattle.sites.specs.Sites.{good_site}
use Rattle.sites.specs.declared.Site.{Site}
use Rattle.settings.specs.declared.Shared.{Shared}

-- mode 0 or 1, format 0 to 2 but not 2 in mode 0, Align 0 to 3, a site in range
unfoldable pub good_shared : Shared → Bool
good_shared s =
    leb s.mode 1 && leb s.format 2 && mode_takes s.mode s.format && leb s.align 3 && good_site s.site

-- with another mode
abbrev pub with_mode : Shared → ℕ → Shared
with_mode s mode = record { mode = mode; format = s.format; align = s.align; site = s.site }

-- with another default format
abbrev pub with_format : Shared → ℕ → Shared
with_format s format = record { mode = s.mode; format = format; align = s.align; site = s.site }

-- with another site
abbrev pub with_site : Shared → Site → Shared
with_site s site = record { mode = s.mode; format = s.format; align = s.align; site = site }

-- format 0 is the channel's default format; where that is 0 as well: standard in mode 0, extended in mode 1
unfoldable pub format_of : Shared → ℕ → ℕ
format_of s format = pick (eqb format 0) (pick (eqb s.format 0) (pick (eqb s.mode 0) 1 2) s.format) format
