-- Events that calls raise and messages that calls bring are sound: their bytes are no damaged slot and say them.
use Prim.Native.Nat.{ℕ, zero, suc, ◌-◌}
use mathlib.Core.Path.{◌≡◌, refl, sym, ap, ◌∙◌}
use mathlib.Core.Bool.{Bool, true, false, ◌&&◌}
use native.Mathlib.Omega.{arith}
use lib.ListN.{length, take, replicate}
use lib.Dec.{leb}
use borrow.Author.Tests.{leb-true, lt-ltb}
use Rattle.std.specs.Prelude.{is_some}
use Rattle.std.proofs.lemmas.Option.{same_Some}
use Rattle.common.specs.Choice.{pick}
use Rattle.common.specs.Numbers.{Bytes}
use Rattle.common.proofs.Bools.{apart, and_right}
use Rattle.common.proofs.Numbers.{zeros_bytes, bytes_append, bytes_take}
use Rattle.ids.specs.Ids.{is_format, raw_of, is_bad, id_number}
use Rattle.ids.specs.Frames.{header_refusal, carried}
use Rattle.filters.specs.Filters.{mode_takes}
use Rattle.messages.specs.Records.{stored, message_bytes, message_in, is_message}
use Rattle.events.specs.Records.{holds_frame, kind_of, stamped, good_event, event_bytes, is_event, event_in}
use Rattle.events.specs.Raised.{event_of, frame_refusal}
use Rattle.messages.specs.declared.Message.{Message}
use Rattle.events.specs.declared.Event.{Event}
use Rattle.events.specs.declared.Kind.TheVariants.{Other}
use Rattle.messages.proofs.RoundTrip.{stored_length, stored_good, message_back, good_is, message_in_back}
use Rattle.messages.proofs.RoundTrip.{good_refusal}
use Rattle.events.proofs.RoundTrip.{event_back, event_good_is, event_as}
use Rattle.message_text.proofs.Ids.{raw_good}
use Rattle.sites.specs.Sites.{good_site}
use Rattle.sites.specs.declared.Site.{Site}
use Rattle.settings.specs.Binary.{sent_format, binary_refusal, sent_message}
use Rattle.settings.specs.declared.Shared.{Shared}
use Rattle.promises.specs.Typed.{Word, Framed}
use Rattle.promises.specs.Stands.{SoundEvent, SoundMessage}

-- ---- records and their bytes

-- a sound event's bytes are no damaged slot, and say that event
pub event_is : (e : Event) → SoundEvent e → (is_event (event_bytes e) ≡ true) × (event_in (event_bytes e) ≡ e)
event_is e s =
    let b = event_back e (record { code = s.code; low = s.low; high = s.high; lost = s.lost; bytes = s.eight })
    s.whole in
    let t : is_event (event_bytes e) ≡ true = sym (event_good_is (event_bytes e)) ∙ ap is_some b in
    (t, same_Some (event_in (event_bytes e)) e (sym (event_as (event_bytes e) t) ∙ b))

-- and so a sound message's
pub message_is : (m : Message) → SoundMessage m → (is_message (message_bytes m) ≡ true) × (message_in (message_bytes m) ≡ m)
message_is m s = (
  sym (good_is (message_bytes m)) ∙ ap is_some (message_back m s.eight s.whole),
  message_in_back m s.eight (good_refusal m s.whole),
)

-- ---- events

-- a sound event is sound with any lost count of 32 bits
pub stamped_sound : (e : Event) (n : ℕ) → SoundEvent e → Word n → SoundEvent (stamped e n)
unfolding good_event
stamped_sound e n f w =
    record { code = f.code; low = f.low; high = f.high; lost = w; eight = f.eight; whole = f.whole }

-- the event of a code that holds a frame
abbrev framed : Site → ℕ → ℕ → Message → Event
framed site code tick m = record {
  kind = kind_of code m.header;
  low = tick;
  high = 0;
  lost = 0;
  bytes = (stored m).bytes;
  site = site;
}

module _ (site : Site) (tick : ℕ) (m : Message) (g : good_site site ≡ true) (t : Word tick)
    (eight : length m.bytes ≡ 8) where
  sound_frame : (code : ℕ) → holds_frame code ≡ true → header_refusal m.header ≡ 0
      → SoundEvent (framed site code tick m)
  unfolding holds_frame kind_of good_event stored
  sound_frame zero h r = absurd (apart (sym h))
  sound_frame (suc zero) h r = record {
    code = omega arith;
    low = t;
    high = omega arith;
    lost = omega arith;
    eight = stored_length m eight;
    whole = rw (stored_good m r eight, g);
  }
  sound_frame (suc (suc zero)) h r = record {
    code = omega arith;
    low = t;
    high = omega arith;
    lost = omega arith;
    eight = stored_length m eight;
    whole = rw (stored_good m r eight, g);
  }
  sound_frame (suc (suc (suc zero))) h r = record {
    code = omega arith;
    low = t;
    high = omega arith;
    lost = omega arith;
    eight = stored_length m eight;
    whole = rw (stored_good m r eight, g);
  }
  sound_frame (suc (suc (suc (suc n)))) h r =
      let c = suc (suc (suc (suc n))) in
      absurd (omega (arith, leb-true c 3 (and_right (leb 1 c) (leb c 3) h)))

  -- the event of a raise whose frame is not refused
  pub event_sound : (code : ℕ) → Word code → frame_refusal code m ≡ 0 → SoundEvent (event_of site code tick m)
  unfolding event_of
  event_sound code w r = by (holds_frame code) refl r
    where
      by : (b : Bool) → holds_frame code ≡ b → pick b (header_refusal m.header) 0 ≡ 0
          → SoundEvent (pick b (framed site code tick m)
          (record { kind = Other code; low = tick; high = 0; lost = 0; bytes = replicate 8 0; site = site }))
      by true h r = sound_frame code h r
      by false h r =
          record {
            code = w;
            low = t;
            high = omega arith;
            lost = omega arith;
            eight = refl;
            whole = unfold good_event in rw (h, g);
          }

-- a sound message in an event of its code
pub message_event_sound : (site : Site) (tick : ℕ) (m : Message) → good_site site ≡ true → Word tick → SoundMessage m
    → (code : ℕ) → Word code
    → SoundEvent (event_of site code tick m)
message_event_sound site tick m g t s code w =
    event_sound site tick m g t s.eight code w (by (holds_frame code) (good_refusal m s.whole))
  where
    by : (b : Bool) → header_refusal m.header ≡ 0 → pick b (header_refusal m.header) 0 ≡ 0
    by true r = r
    by false r = refl

-- ---- messages

-- bytes not carried are stored as zeros
stored_bytes : (m : Message) → Bytes m.bytes → Bytes (stored m).bytes
unfolding stored
stored_bytes m b =
    let n = carried m.header in
    bytes_append (take n m.bytes) (replicate (8 - n) 0) (bytes_take n m.bytes b) (zeros_bytes (8 - n))

-- a binary message that is not refused
pub sent_sound : (s : Shared) (m : Message) → Framed m → binary_refusal s m ≡ 0 → SoundMessage (sent_message s m)
unfolding binary_refusal
sent_sound s m f z =
    by (is_format (sent_format s m) && mode_takes s.mode (sent_format s m))
    (is_bad (raw_of s.align (sent_format s m) m.header.id))
    (leb m.header.rtr 1) (leb m.header.dlc 15) refl refl refl z
  where
    given : Message
    given = record {
      header =
          record {
            id = id_number (raw_of s.align (sent_format s m) m.header.id);
            format = sent_format s m;
            rtr = m.header.rtr;
            dlc = m.header.dlc;
          };
      bytes = m.bytes;
    }

    by : (a b c e : Bool) → is_bad (raw_of s.align (sent_format s m) m.header.id) ≡ b → leb m.header.rtr 1 ≡ c
        → leb m.header.dlc 15 ≡ e
        → ◌≡◌ {A = ℕ} (pick a (pick b 8 (pick c (pick e 0 10) 9)) 13) 0 → SoundMessage (stored given)
    by true false true true x y w z =
        let g = raw_good s.align (sent_format s m) m.header.id x in
        record {
          eight = stored_length given f.eight;
          bytes = stored_bytes given f.bytes;
          whole = stored_good given (unfold header_refusal in rw (g.0, lt-ltb _ _ g.1, y, w)) f.eight;
        }
    by true false true false x y w z = absurd (omega (arith, z))
    by true false false e x y w z = absurd (omega (arith, z))
    by true true c e x y w z = absurd (omega (arith, z))
    by false b c e x y w z = absurd (omega (arith, z))
