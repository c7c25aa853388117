-- The promises of the model, carried to the bytes that the code answers and keeps.
use Prim.Native.Nat.{ℕ, ◌+◌, ◌≤◌}
use mathlib.Core.Path.{◌≡◌, refl, sym, ap, subst₂, ◌∙◌}
use mathlib.Core.Bool.{true}
use mathlib.Core.List.{List, [], ◌∷◌, ◌++◌, map, map-append}
use native.Mathlib.Omega.{arith}
use lib.ListN.{length, length-map, take, drop}
use Rattle.common.specs.All.{All}
use Rattle.common.specs.Numbers.{among}
use Rattle.common.proofs.All.{all_append}
use Rattle.common.specs.Sublist.{Sublist}
use Rattle.common.proofs.Sublists.{sublist_map}
use Rattle.messages.specs.Records.{message_bytes}
use Rattle.events.specs.Records.{stamped}
use Rattle.events.proofs.RoundTrip.{lost_back, apart_lost, site_part}
use Rattle.sites.specs.Sites.{site_in}
use Rattle.sites.specs.declared.Site.{Site}
use Rattle.sites.proofs.RoundTrip.{site_back}
use Rattle.event_text.proofs.Good.{placed}
use Rattle.settings.specs.Ranges.{good_shared}
use Rattle.settings.specs.declared.Settings.{Settings}
use Rattle.device.specs.Outcomes.{Lent}
use Rattle.device.specs.Opening.{opened}
use Rattle.model.specs.Inbox.{Kept, keeps, Inbox}
use Rattle.model.specs.Outbox.{Outbox}
use Rattle.model.specs.Box.{Box, fresh, Asked}
use Rattle.model.specs.Box as Model
use Rattle.model.specs.Listed.{usual}
use Rattle.model.specs.Promised.{recorded, lost_sum, site_before, Carries, apart, Within, with_places, message_of}
use Rattle.model.proofs.Lasting.{Lasting, run_keeps}
use Rattle.model.proofs.Sum.{sum}
use Rattle.model.proofs.Larger.{larger}
use Rattle.model.proofs.Usual.{says_usual}
use Rattle.model.proofs.Mail.{mailed}
use Rattle.model.proofs.Sites.{sites_carried}
use Rattle.promises.specs.Typed.{Word, Made, asked, TypedSettings}
use Rattle.promises.specs.Runs.{Run, queued_events, waiting, recorded_bytes, answered, run, started}
use Rattle.promises.specs.Stands.{SoundKept, kept_bytes, RunStands}
use Rattle.promises.specs.Promised.{lost_bytes, site_of, Entry, entries}
use Rattle.promises.proofs.Answers.{says_model, answers, waiting_bytes}
use Rattle.promises.proofs.Holding.{all_snoc}

-- ---- what is recorded

module _ (r : Run) (b : Box) (h : RunStands r b) where
  -- the bytes recorded are those of the model's events, read and then queued
  stands_recorded : recorded_bytes r ≡ map kept_bytes (recorded b.inbox)
  stands_recorded =
      ap (λ (l : List (List ℕ)). l ++ queued_events r) h.read
      ∙ ap (λ (l : List (List ℕ)). map kept_bytes b.inbox.read ++ l) h.stands.inbox.events.slots
      ∙ sym (map-append kept_bytes b.inbox.read b.inbox.queue)

-- THEOREM. After any calls from an opening that answers 0: the bytes that the reads handed out,
-- then those of the queued slots, are the bytes of the events that the model has recorded, in the same order
pub recorded_bytes_lem : (s : Settings) (l : Lent) (xs : List Made) → TypedSettings s → (opened s l).number ≡ 0
    → recorded_bytes (run xs (started s l)) ≡ map kept_bytes (recorded (Model.run 0 (map asked xs) (fresh s)).inbox)
recorded_bytes_lem s l xs ty e =
    stands_recorded (run xs (started s l)) (Model.run 0 (map asked xs) (fresh s)) (answers s l xs ty e).1

-- ---- the sum

-- an event whose lost count has 32 bits
abbrev Counted : Kept → Type 0
Counted k = Word k.event.lost

-- every lost count has 32 bits
record AllCounted (b : Inbox) : Type 0 where
  pending : Word b.pending
  read : All Counted b.read
  queue : All Counted b.queue

counted_lasts : Lasting AllCounted
counted_lasts = record {
  recorded = λ i e b room p. record {
    pending = omega arith;
    read = p.read;
    queue = all_snoc Counted b.queue (keeps i (stamped e b.pending)) p.queue p.pending;
  };
  lost = λ i e b full p. record { pending = omega arith; read = p.read; queue = p.queue };
  read = λ k rest b q p.
      let ks = rw q at p.queue in
      record { pending = p.pending; read = all_snoc Counted b.read k p.read ks.0; queue = ks.1 };
  filter = λ code mask b p. record { pending = p.pending; read = p.read; queue = p.queue };
  mask = λ mask b p. record { pending = p.pending; read = p.read; queue = p.queue };
}

-- the lost counts in the bytes are the model's
lost_bytes_lem : (ks : List Kept) → All Counted ks → lost_bytes (map kept_bytes ks) ≡ lost_sum ks
lost_bytes_lem [] h = refl
lost_bytes_lem (k ∷ ks) h = let rest = lost_bytes_lem ks h.1 in let one = lost_back k.event h.0 in omega arith

-- THEOREM, demand 2. Up to 4,294,967,295 events past filter and mask: events read + events queued + the lost counts
-- in the bytes of both
-- + the pending count = those events
pub sum_of_bytes : (s : Settings) (l : Lent) (xs : List Made) → TypedSettings s → (opened s l).number ≡ 0
    → let r : Run = run xs (started s l) in
    let b : Inbox = (Model.run 0 (map asked xs) (fresh s)).inbox in
    length b.arrived ≤ 4294967295
    → length r.read + length (queued_events r)
    + (lost_bytes r.read + lost_bytes (queued_events r) + r.device.receive.pending)
    ≡ length b.arrived
sum_of_bytes s l xs ty e bound =
    let b = (Model.run 0 (map asked xs) (fresh s)).inbox in
    let h = (answers s l xs ty e).1 in
    let c = run_keeps AllCounted counted_lasts 0 (map asked xs) (fresh s)
    (record { pending = omega arith; read = tt; queue = tt }) in
    let total = sum s (map asked xs) bound in
    let reads = ap length h.read ∙ length-map b.read kept_bytes in
    let queues = ap length h.stands.inbox.events.slots ∙ length-map b.queue kept_bytes in
    let lost_read = ap lost_bytes h.read ∙ lost_bytes_lem b.read c.read in
    let lost_queued = ap lost_bytes h.stands.inbox.events.slots ∙ lost_bytes_lem b.queue c.queue in
    let waits = h.stands.inbox.pending in
    omega arith

-- ---- the site of every event

-- the sites in the bytes of sound events are the events' own
sites_are : (asks : List Asked) (site : Site) (ks : List Kept) → All SoundKept ks → All (Carries asks site) ks
    → map site_of (map kept_bytes ks) ≡ map (λ (k : Kept). site_before k.place asks site) ks
sites_are asks site [] h c = refl
sites_are asks site (k ∷ ks) h c =
    let e = k.event in
    let own = ap site_in (site_part e h.0.eight) ∙ site_back e.site (placed e h.0.whole) ∙ c.0 in
    λ i. own i ∷ sites_are asks site ks h.1 c.1 i

-- THEOREM. After any calls from an opening that answers 0: in the bytes of every event recorded, read or queued,
-- stands the site that was set last before the call that raised it
pub sites_of_bytes : (s : Settings) (l : Lent) (xs : List Made) → TypedSettings s → (opened s l).number ≡ 0
    → map site_of (recorded_bytes (run xs (started s l)))
    ≡ map (λ (k : Kept). site_before k.place (map asked xs) s.site)
    (recorded (Model.run 0 (map asked xs) (fresh s)).inbox)
sites_of_bytes s l xs ty e =
    let b = (Model.run 0 (map asked xs) (fresh s)).inbox in
    let h = (answers s l xs ty e).1 in
    ap (map site_of) (recorded_bytes_lem s l xs ty e)
    ∙ sites_are (map asked xs) s.site (recorded b)
    (all_append SoundKept b.read b.queue h.sound h.stands.inbox.sound) (sites_carried s (map asked xs)).1

-- ---- the larger queue

-- an event's place, and its bytes apart from its lost count
abbrev entry_of : Kept → Entry
entry_of k = record { place = k.place; bytes = take 12 (kept_bytes k) ++ drop 16 (kept_bytes k) }

entries_are : (ks : List Kept) → entries ks (map kept_bytes ks) ≡ map entry_of ks
entries_are [] = refl
entries_are (k ∷ ks) = ap (λ (l : List Entry). entry_of k ∷ l) (entries_are ks)

-- lost counts do not matter
entries_apart : (ks : List Kept) → map entry_of (map apart ks) ≡ map entry_of ks
entries_apart [] = refl
entries_apart (k ∷ ks) =
    let a = apart_lost k.event 0 in
    λ j. record { place = k.place; bytes = a.0 j ++ a.1 j } ∷ entries_apart ks j

within_entries : (a b : Inbox) → Within a b → Sublist (map entry_of (recorded a)) (map entry_of (recorded b))
within_entries a b h =
    subst₂ (λ (k l : List Entry). Sublist k l) (entries_apart (recorded a)) (entries_apart (recorded b))
    (sublist_map entry_of h)

-- THEOREM, demand 3. Two boxes opened with the same settings but for c and d event places, c ≤ d,
-- each over its own tables of any bytes, given the same calls: what the smaller has recorded,
-- place by place and byte by byte apart from lost counts, the larger has, in the same order
pub larger_queue : (s : Settings) (c d : ℕ) (l m : Lent) (xs : List Made) → c ≤ d → TypedSettings s
    → (opened (with_places s c) l).number ≡ 0 → (opened (with_places s d) m).number ≡ 0
    → let small : Inbox = (Model.run 0 (map asked xs) (fresh (with_places s c))).inbox in
    let large : Inbox = (Model.run 0 (map asked xs) (fresh (with_places s d))).inbox in
    Sublist (entries (recorded small) (recorded_bytes (run xs (started (with_places s c) l))))
    (entries (recorded large) (recorded_bytes (run xs (started (with_places s d) m))))
larger_queue s c d l m xs le ty e g =
    let small = (Model.run 0 (map asked xs) (fresh (with_places s c))).inbox in
    let large = (Model.run 0 (map asked xs) (fresh (with_places s d))).inbox in
    let typed : (n : ℕ) → TypedSettings (with_places s n) = λ n. record { code = ty.code; mask = ty.mask } in
    rw (
      recorded_bytes_lem (with_places s c) l xs (typed c) e,
      recorded_bytes_lem (with_places s d) m xs (typed d) g,
      entries_are (recorded small),
      entries_are (recorded large),
    )
    (within_entries small large (larger s c d le (map asked xs)))

-- THEOREM. So the box with 1,500 places drops nothing that the box with 200 has kept
pub box_of_1500 : (s : Settings) (l m : Lent) (xs : List Made) → TypedSettings s
    → (opened (with_places s 200) l).number ≡ 0 → (opened (with_places s 1500) m).number ≡ 0
    → let small : Inbox = (Model.run 0 (map asked xs) (fresh (with_places s 200))).inbox in
    let large : Inbox = (Model.run 0 (map asked xs) (fresh (with_places s 1500))).inbox in
    Sublist (entries (recorded small) (recorded_bytes (run xs (started (with_places s 200) l))))
    (entries (recorded large) (recorded_bytes (run xs (started (with_places s 1500) m))))
box_of_1500 s l m xs ty e g = larger_queue s 200 1500 l m xs (omega arith) ty e g

-- ---- the numbers that can still be answered

-- THEOREM, demand 2. In every run from an opening every call answers a number of `usual`: never 2,
-- and no read and no take 14
pub always_usual : (s : Settings) (l : Lent) (xs : List Made) (x : Made) → TypedSettings s → (opened s l).number ≡ 0
    → among (answered x (run xs (started s l))).number (usual x.call) ≡ true
always_usual s l xs x ty e =
    let r = run xs (started s l) in
    let b = Model.run 0 (map asked xs) (fresh s) in
    let h = (answers s l xs ty e).1 in
    let good : good_shared b.shared ≡ true = sym (ap good_shared h.stands.shared) ∙ h.stands.possible in
    ap (λ (n : ℕ). among n (usual x.call)) (says_model x r b h 0).number
    ∙ says_usual 0 (length x.out) x.call b good

-- ---- messages

-- THEOREM, demand 2. The messages sent are, in that order, those taken or purged and then the message slots that
-- still wait
pub mailed_bytes : (s : Settings) (l : Lent) (xs : List Made) → TypedSettings s → (opened s l).number ≡ 0
    → let o : Outbox = (Model.run 0 (map asked xs) (fresh s)).outbox in
    map message_bytes o.sent ≡ map message_bytes (map message_of o.gone) ++ waiting (run xs (started s l))
mailed_bytes s l xs ty e =
    let o = (Model.run 0 (map asked xs) (fresh s)).outbox in
    ap (map message_bytes) (mailed s (map asked xs)).in_order
    ∙ map-append message_bytes (map message_of o.gone) o.buffer
    ∙ ap (λ (l : List (List ℕ)). map message_bytes (map message_of o.gone) ++ l) (sym (waiting_bytes s l xs ty e))
