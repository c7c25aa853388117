-- A message that comes as binary: format 0, 1 or 2, aligned identifier (01, "Sending").
use Rattle.std.specs.Prelude.{ℕ, ◌&&◌}
use Rattle.common.specs.Choice.{pick}
use Rattle.ids.specs.Ids.{is_format, raw_of, is_bad, id_number}
use Rattle.filters.specs.Filters.{mode_takes}
use Rattle.ids.specs.Frames.{rtr_dlc_refusal}
use Rattle.messages.specs.Records.{stored}
use Rattle.messages.specs.declared.Message.{Message}
use Rattle.settings.specs.Ranges.{format_of}
use Rattle.settings.specs.declared.Shared.{Shared}

-- its format: 0 means the default format
abbrev pub sent_format : Shared → Message → ℕ
sent_format s m = format_of s m.header.format

-- 13 (not 1 or 2, or extended in mode 0), 8, 9, 10, or 0
unfoldable pub binary_refusal : Shared → Message → ℕ
binary_refusal s m =
    pick (is_format (sent_format s m) && mode_takes s.mode (sent_format s m))
    (pick (is_bad (raw_of s.align (sent_format s m) m.header.id)) 8
    (rtr_dlc_refusal m.header.rtr m.header.dlc)) 13

-- the message that is stored: its identifier made raw, bytes not carried as zero
abbrev pub sent_message : Shared → Message → Message
sent_message s m =
    stored (record {
      header = record {
        id = id_number (raw_of s.align (sent_format s m) m.header.id);
        format = sent_format s m;
        rtr = m.header.rtr;
        dlc = m.header.dlc;
      };
      bytes = m.bytes;
    })
