-- A store that is dropped, over its two beats.
use Rattle.std.proofs.Common.{◌⊎◌, ℕ, suc, ◌+◌, ◌<◌, ◌≤◌, List, [], ◌∷◌, length, get_or, map, inl, inr, refl, ap, sym, ◌∙◌, arith}
use Rattle.std.proofs.lemmas.Bool.{cases_lt}
use Rattle.std.specs.List.{All}
use Rattle.std.proofs.lemmas.List.{get_or-take, length-take}
use Rattle.ports.specs.Bytes.{CutShort}
use Rattle.ports.specs.Disk.{DiskState, IsDisk, InEveryImage, After}
use Rattle.ports.specs.Stops.{Leaves, LeavesByBeat, EachLeaves, EachImage, AreImages, IsStop, Empties}
use Rattle.ports.proofs.Parts.{cut_same}
use Rattle.ports.proofs.Stops.{weaker, by_beat, by_beat_weaker, in_turn, later_beat, started_by_beat, each_leaves, each_of_stop, each_image_weaker}
use Rattle.ports.specs.Devices.{Each, OneRose}
use Rattle.ports.proofs.Rising.{one_rose_before}
use Rattle.store_model.specs.Heads.{IsShutGraph}
use Rattle.store_model.specs.Kept.{IsUnprepared}
use Rattle.restart.specs.Dropping.{IsAsBeforeOrShut, WhileDropped, WhileEmptied, Closes}

-- a front of a graph device that is not open is not open
cut_shut : (size : ℕ) (old new : List ℕ) → CutShort size old new → IsShutGraph old → IsShutGraph new
cut_shut size old new cut shut opened =
    let long : length new ≤ length old = omega (arith, ap length cut.front, length-take (length new) old) in
    shut (record {
      whole = omega (arith, opened.whole);
      gate = sym (get_or-take (length new) old 0 0 (omega (arith, opened.whole))) ∙ ap (λ bytes. get_or bytes 0 0) cut.front ∙ opened.gate;
    })

-- **A graph device in both beats.**
pub graph_dropped : (number last : ℕ) (start mid new : DiskState) → IsDisk mid → start.beat ≤ number → Closes number start mid → InEveryImage mid IsShutGraph → Empties (number + 1) mid new
    → LeavesByBeat start new (λ b c. b ≤ last → WhileDropped (number + 1) start b c)
graph_dropped number last start mid new law beat closes shut empties =
    let emptied : Leaves (number + 1) mid new IsShutGraph = weaker (number + 1) mid new (After (CutShort 0) mid) IsShutGraph empties.leaves (λ c after. cut_shut 0 after.0 c after.2 (shut after.0 after.1)) in
    by_beat_weaker start new (λ b c. ((b < number + 1) × IsAsBeforeOrShut start c) ⊎ ((number + 1 ≤ b) × IsShutGraph c)) (λ b c. b ≤ last → WhileDropped (number + 1) start b c)
    (in_turn number (number + 1) start mid new (IsAsBeforeOrShut start) IsShutGraph law (closes.goes_on.beat beat) (omega arith) closes.leaves emptied shut)
    (λ b c claim _. elim claim [
      | inl first ↦ record { always = first.1; shut = λ second. absurd (omega (arith, first.0, second)) }
      | inr second ↦ record { always = inr second.1; shut = λ _. second.1 }
    ])

-- and where the call ended in the first
pub graph_closed : (number : ℕ) (start new : DiskState) → Closes number start new → LeavesByBeat start new (λ b c. b ≤ number → WhileDropped (number + 1) start b c)
graph_closed number start new closes =
    by_beat_weaker start new (λ b c. IsAsBeforeOrShut start c) (λ b c. b ≤ number → WhileDropped (number + 1) start b c)
    (by_beat number start new (IsAsBeforeOrShut start) closes.leaves)
    (λ b c claim first. record { always = claim; shut = λ second. absurd (omega (arith, first, second)) })

-- **A values device in both beats.**
pub values_emptied : (number last : ℕ) (start new : DiskState) → IsDisk start → start.beat ≤ number → Empties (number + 1) start new
    → LeavesByBeat start new (λ b c. b ≤ last → WhileEmptied (number + 1) start b c)
values_emptied number last start new law beat empties =
    by_beat_weaker start new (λ b c. ((b < number + 1) × start.images c) ⊎ ((number + 1 ≤ b) × After (CutShort 0) start c)) (λ b c. b ≤ last → WhileEmptied (number + 1) start b c)
    (later_beat (number + 1) start start new (λ b c. start.images c) (After (CutShort 0) start) law (omega (arith, beat))
    (started_by_beat start (λ b c. start.images c) law (λ b c image. image)) empties.leaves (λ c image. (c, image, cut_same 0 c)))
    (λ b c claim _. elim claim [
      | inl first ↦ record { unwritten = λ _. first.1; front = (c, first.1, cut_same 0 c) }
      | inr second ↦ record { unwritten = λ first. absurd (omega (arith, second.0, first)); front = second.1 }
    ])

pub values_kept : (number : ℕ) (start : DiskState) → IsDisk start → LeavesByBeat start start (λ b c. b ≤ number → WhileEmptied (number + 1) start b c)
values_kept number start law =
    started_by_beat start (λ b c. b ≤ number → WhileEmptied (number + 1) start b c) law
    (λ b c image _. record { unwritten = λ _. image; front = (c, image, cut_same 0 c) })

-- Device by device.
pub graphs_dropped : {X : Type 0} (state : X → DiskState) (number last : ℕ) (olds mids news : List X) → ((x : X) → IsDisk (state x)) → All (λ x. (state x).beat ≤ number) olds
    → Each state (Closes number) olds mids → All (λ x. InEveryImage (state x) IsShutGraph) mids → Each state (Empties (number + 1)) mids news
    → EachLeaves (λ e start b c. b ≤ last → WhileDropped (number + 1) start b c) (map state olds) (map state news)
graphs_dropped state number last olds mids news laws beats closes shut empties =
    each_leaves state (λ e start b c. b ≤ last → WhileDropped (number + 1) start b c) olds news (empties.many ∙ closes.many)
    (λ e d within.
    let within' : e < length mids = omega (arith, within, closes.many) in
    graph_dropped number last (state (get_or olds e d)) (state (get_or mids e d)) (state (get_or news e d)) (laws (get_or mids e d))
    (beats e d within) (closes.each e d within) (shut e d within') (empties.each e d within'))

pub graphs_closed : {X : Type 0} (state : X → DiskState) (number : ℕ) (olds news : List X) → Each state (Closes number) olds news
    → EachLeaves (λ e start b c. b ≤ number → WhileDropped (number + 1) start b c) (map state olds) (map state news)
graphs_closed state number olds news closes =
    each_leaves state (λ e start b c. b ≤ number → WhileDropped (number + 1) start b c) olds news closes.many
    (λ e d within. graph_closed number (state (get_or olds e d)) (state (get_or news e d)) (closes.each e d within))

pub all_values_emptied : {X : Type 0} (state : X → DiskState) (number last : ℕ) (olds news : List X) → ((x : X) → IsDisk (state x)) → All (λ x. (state x).beat ≤ number) olds
    → Each state (Empties (number + 1)) olds news
    → EachLeaves (λ e start b c. b ≤ last → WhileEmptied (number + 1) start b c) (map state olds) (map state news)
all_values_emptied state number last olds news laws beats empties =
    each_leaves state (λ e start b c. b ≤ last → WhileEmptied (number + 1) start b c) olds news empties.many
    (λ e d within. values_emptied number last (state (get_or olds e d)) (state (get_or news e d)) (laws (get_or olds e d)) (beats e d within) (empties.each e d within))

pub all_values_kept : {X : Type 0} (state : X → DiskState) (number : ℕ) (disks : List X) → ((x : X) → IsDisk (state x))
    → EachLeaves (λ e start b c. b ≤ number → WhileEmptied (number + 1) start b c) (map state disks) (map state disks)
all_values_kept state number disks laws =
    each_leaves state (λ e start b c. b ≤ number → WhileEmptied (number + 1) start b c) disks disks refl
    (λ e d within. values_kept number (state (get_or disks e d)) (laws (get_or disks e d)))

-- **All devices at one stop.**
all_or_shut : (disks : List DiskState) (images : List (List ℕ)) → EachImage (λ e disk c. IsAsBeforeOrShut disk c) disks images → AreImages disks images ⊎ IsUnprepared images
all_or_shut (disk ∷ disks) (c ∷ cs) holds = elim holds.0 [
  | inr shut ↦ inr (0, omega arith, shut)
  | inl image ↦ elim (all_or_shut disks cs holds.1) [
    | inl images ↦ inl (image, images)
    | inr other ↦ inr (suc other.0, omega (arith, other.1), other.2)
  ]
]
all_or_shut (disk ∷ disks) [] holds = absurd holds
all_or_shut [] (c ∷ cs) holds = absurd holds
all_or_shut [] [] holds = inl tt

one_shut : (disks : List DiskState) (images : List (List ℕ)) → 0 < length disks → EachImage (λ e disk c. IsShutGraph c) disks images → IsUnprepared images
one_shut (disk ∷ disks) (c ∷ cs) some holds = (0, omega arith, holds.0)
one_shut (disk ∷ disks) [] some holds = absurd holds
one_shut [] images some holds = absurd (omega arith)

pub stops_of_drop : (number last : ℕ) (olds news olds' news' : List DiskState)
    → EachLeaves (λ e start b c. b ≤ last → WhileDropped (number + 1) start b c) olds news
    → EachLeaves (λ e start b c. b ≤ last → WhileEmptied (number + 1) start b c) olds' news'
    → (b : ℕ) (graphs values : List (List ℕ)) → b ≤ last → 0 < length olds → IsStop b olds news graphs → IsStop b olds' news' values
    → (AreImages olds graphs × AreImages olds' values) ⊎ IsUnprepared graphs
stops_of_drop number last olds news olds' news' dropped emptied b graphs values within some stop stop' =
    let claims = each_of_stop (λ e start b c. b ≤ last → WhileDropped (number + 1) start b c) b olds news graphs dropped stop in
    let claims' = each_of_stop (λ e start b c. b ≤ last → WhileEmptied (number + 1) start b c) b olds' news' values emptied stop' in
    elim (cases_lt b (number + 1)) [
      | inl first ↦
          let either : EachImage (λ e disk c. IsAsBeforeOrShut disk c) olds graphs =
          each_image_weaker (λ e disk c. b ≤ last → WhileDropped (number + 1) disk b c) (λ e disk c. IsAsBeforeOrShut disk c) olds graphs (λ e disk c claim. (claim within).always) claims in
          let unwritten : AreImages olds' values =
          each_image_weaker (λ e disk c. b ≤ last → WhileEmptied (number + 1) disk b c) (λ e disk c. disk.images c) olds' values (λ e disk c claim. (claim within).unwritten first) claims' in
          elim (all_or_shut olds graphs either) [ inl images ↦ inl (images, unwritten) | inr shut ↦ inr shut ]
      | inr second ↦
          inr (one_shut olds graphs some (each_image_weaker (λ e disk c. b ≤ last → WhileDropped (number + 1) disk b c) (λ e disk c. IsShutGraph c) olds graphs (λ e disk c claim. (claim within).shut second) claims))
    ]

-- The cause of a fault: a count that rose in the second beat is higher than at the start.
pub rose_later : {X : Type 0} (state : X → DiskState) (number : ℕ) (olds mids news : List X) → Each state (Closes number) olds mids → OneRose state mids news → OneRose state olds news
rose_later state number olds mids news closes rose =
    one_rose_before (λ x. (state x).faults) olds mids news closes.many (λ k d within. (closes.each k d within).goes_on.faults) rose
