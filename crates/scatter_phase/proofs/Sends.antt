-- What the edges of a chunk send under the values of their partition is what they send under those of all vertices.
use Rattle.std.proofs.Common.{◌≡◌, ℕ, ◌+◌, ◌-◌, ◌<◌, ◌≤◌, Bool, cond, Option, Some, None, List, [], ◌∷◌, ◌++◌, length, take, refl, sym, ◌∙◌, ap, subst, arith, nat_lt}
use Rattle.std.specs.Prelude.{◌&&◌, Result, Ok, Err, IfErr, OnOk, OnErr}
use Rattle.std.specs.List.{All}
use Rattle.std.proofs.lemmas.Bool.{and_parts, ltb-true}
use Rattle.std.proofs.lemmas.List.{length-take-le}
use Rattle.std.proofs.lemmas.List.Elements.{All-head, All-tail, All-weaker}
use Rattle.std.proofs.lemmas.List.FromFn.{get_or-map-range_with_len}
use Rattle.graph_model.specs.declared.edge.Edge.{Edge}
use Rattle.graph_model.specs.declared.value.Value.{Value}
use Rattle.graph_model.specs.declared.value.Update.{Update}
use Rattle.graph_model.specs.Programs.{Rules}
use Rattle.graph_model.specs.Partitions.{first_vertex}
use Rattle.graph_model.specs.Rounds.{value_at, differs}
use Rattle.ports.specs.Disk.{DiskState}
use Rattle.ports.specs.Devices.{OneRose, NoneRose}
use Rattle.partitioner.specs.declared.split.Split.{Split}
use Rattle.partitioner.specs.Splits.{IsSplit}
use Rattle.partitioner.proofs.Ranges.{in_partition}
use Rattle.chunk_model.specs.Layout.{edge_layout}
use Rattle.chunk_model.specs.ChunkBytes.{Belongs}
use Rattle.chunk_file.specs.Chunks.{AreChunkIn}
use Rattle.phase_model.specs.Sends.{Sending, update_to, sent_along, sent_by, sending_of}
use Rattle.store_reader.specs.Reading.{len_in}
use Rattle.phase_model.specs.declared.placed.Placed.{Placed}
use Rattle.update_lanes.specs.declared.lanes.LaneFault.{LaneFault}
use Rattle.update_lanes.specs.declared.lanes.LaneFault.TheVariants.{DiskFault}
use Rattle.update_lanes.specs.declared.outgoing.Outgoing.{Outgoing}
use Rattle.update_lanes.specs.Outgoing.{SendsOn, StopsOn}
use Rattle.update_lanes.specs.Sending.{IsFrom, AreChanges, value_from, sending_all}
use Rattle.scatter_phase.specs.declared.desk.ScatterRoom.{ScatterRoom}
use Rattle.store_reader.specs.Values.{values_in, HoldValues, HoldBefore}
use Rattle.scatter_phase.specs.Phases.{IsSetAtFront, IsSetBefore, AreMarkedSince}
use Rattle.scatter_phase.specs.Sending.{sending_from, sending_in}

-- the edges of a chunk come from its partition
pub edges_from : (split : Split) (format most p : ℕ) (es : List Edge) → IsSplit split → AreChunkIn (edge_layout format) split most p es → All (IsFrom (first_vertex split.vertices split.parts p) (len_in split p) split.vertices) es
edges_from split format most p es is are = All-weaker (Belongs (edge_layout format) split.vertices split.span p) (IsFrom (first_vertex split.vertices split.parts p) (len_in split p) split.vertices) from es are.belong
  where
    from : (e : Edge) → Belongs (edge_layout format) split.vertices split.span p e → IsFrom (first_vertex split.vertices split.parts p) (len_in split p) split.vertices e
    from e belongs =
        let ends = and_parts (nat_lt e.src split.vertices) _ (and_parts (nat_lt e.src split.vertices && nat_lt e.dst split.vertices) _ belongs.fits).0 in
        let range = in_partition split p e.src is (ltb-true e.src split.vertices ends.0) belongs.home in
        record { not_before = range.0; within = omega (arith, range.0, range.1); there = ltb-true e.dst split.vertices ends.1 }

-- two sendings by which each edge sends the same
sent_same : (s t : Sending) (es : List Edge) (P : Edge → Type 0) → ((e : Edge) → P e → sent_along s e ≡ sent_along t e) → All P es → sent_by s es ≡ sent_by t es
sent_same s t [] P each all = refl
sent_same s t (e ∷ es) P each all = λ i. each e (All-head P e es all) i ++ sent_same s t es P each (All-tail P e es all) i

-- the value of a vertex of the partition is the one that it has among all vertices
value_here : (split : Split) (p : ℕ) (set values : List Value) (v : ℕ) → set ≡ values_in split p values → first_vertex split.vertices split.parts p ≤ v → v - first_vertex split.vertices split.parts p < len_in split p
    → value_from (first_vertex split.vertices split.parts p) set v ≡ value_at values v
value_here split p set values v is not_before within =
    ap (λ xs. value_at xs (v - first_vertex split.vertices split.parts p)) is
    ∙ get_or-map-range_with_len (value_at values) (first_vertex split.vertices split.parts p) (len_in split p) (v - first_vertex split.vertices split.parts p) v (record { main = 0; side = 0 }) within (omega (arith, not_before))

module _ {X : Type 0} (state : X → DiskState) (rules : Rules) (split : Split) (devices : List X) (p : ℕ) (now_slot : ℕ) where
  -- **What is sent under the values in the room is what is sent under those of all vertices.**
  pub sends_as_all : (slot : Option ℕ) (room : ScatterRoom) (es : List Edge) → All (IsFrom (first_vertex split.vertices split.parts p) (len_in split p) split.vertices) es
      → IsSetAtFront state split devices now_slot p room.now.items → IsSetBefore state split devices slot p room.before.items
      → (now : List Value) → HoldValues state split devices now_slot now → (before : Option (List Value)) → HoldBefore state split devices slot before
      → sent_by (sending_in rules split p slot room) es ≡ sent_by (sending_of rules before now) es
  sends_as_all None room es from set set_before now holds None holds_before =
      sent_same (sending_in rules split p None room) (sending_of rules None now) es (IsFrom (first_vertex split.vertices split.parts p) (len_in split p) split.vertices)
      (λ e is. ap (λ value. update_to e.dst (rules.send value e.weight)) (value_here split p (take (len_in split p) room.now.items) now e.src (set now holds) is.not_before is.within)) from
  sends_as_all None room es from set set_before now holds (Some before) holds_before = absurd holds_before
  sends_as_all (Some slot) room es from set set_before now holds None holds_before = absurd holds_before
  sends_as_all (Some slot) room es from set set_before now holds (Some before) holds_before =
      sent_same (sending_in rules split p (Some slot) room) (sending_of rules (Some before) now) es (IsFrom (first_vertex split.vertices split.parts p) (len_in split p) split.vertices)
      (λ e is.
      let value = value_here split p (take (len_in split p) room.now.items) now e.src (set now holds) is.not_before is.within in
      let old = value_here split p (take (len_in split p) room.before.items) before e.src (set_before slot refl before holds_before) is.not_before is.within in
      λ i. cond (differs (value i) (old i)) (update_to e.dst (rules.send (value i) e.weight)) []) from

-- what is in the room, in words of it
pub all_in : (rules : Rules) (split : Split) (p count first end : ℕ) (slot : Option ℕ) (room : ScatterRoom) (es : List Edge) (now : List Value)
    → slot ≡ None → first ≡ first_vertex split.vertices split.parts p → end ≡ first_vertex split.vertices split.parts (p + 1) → es ≡ room.edges.items → now ≡ room.now.items
    → sent_by (sending_all rules first (take (end - first) now)) (take count es) ≡ sent_by (sending_in rules split p slot room) (take count room.edges.items)
all_in rules split p count first end slot room es now none first_is end_is es_is now_is =
    λ i. sent_by (sending_from rules (first_is i) (sym none i) (take (len_in split p) room.before.items) (take (end_is i - first_is i) (now_is i))) (take count (es_is i))

pub changed_in : (rules : Rules) (split : Split) (p count first end s : ℕ) (slot : Option ℕ) (room : ScatterRoom) (es : List Edge) (before now : List Value)
    → slot ≡ Some s → first ≡ first_vertex split.vertices split.parts p → end ≡ first_vertex split.vertices split.parts (p + 1) → es ≡ room.edges.items → before ≡ room.before.items → now ≡ room.now.items
    → sent_by (sending_from rules first (Some s) (take (end - first) before) (take (end - first) now)) (take count es) ≡ sent_by (sending_in rules split p slot room) (take count room.edges.items)
changed_in rules split p count first end s slot room es before now some first_is end_is es_is before_is now_is =
    λ i. sent_by (sending_from rules (first_is i) (sym some i) (take (end_is i - first_is i) (before_is i)) (take (end_is i - first_is i) (now_is i))) (take count (es_is i))

-- and which vertices changed
pub marked_in : (split : Split) (p first end s : ℕ) (slot : Option ℕ) (room : ScatterRoom) (now : List Value) (changed : List Bool)
    → slot ≡ Some s → first ≡ first_vertex split.vertices split.parts p → end ≡ first_vertex split.vertices split.parts (p + 1) → now ≡ room.now.items → changed ≡ room.changed.items
    → AreMarkedSince split slot p room → AreChanges (take (end - first) room.before.items) (take (end - first) now) (take (end - first) changed)
marked_in split p first end s slot room now changed some first_is end_is now_is changed_is marked =
    subst (λ n. AreChanges (take n room.before.items) (take n now) (take n changed)) (λ i. sym end_is i - sym first_is i)
    (subst (λ xs. AreChanges (take (len_in split p) room.before.items) (take (len_in split p) xs) (take (len_in split p) changed)) (sym now_is)
    (subst (λ bs. AreChanges (take (len_in split p) room.before.items) (take (len_in split p) room.now.items) (take (len_in split p) bs)) (sym changed_is) (marked s some)))

module _ {X : Type 0} (state : X → DiskState) (number : ℕ) (old new : Outgoing) (places noted : List Placed) where
  -- the lanes are as many as before, whatever the answer
  pub lanes_long : {T E : Type 0} (r : Result T E) (lanes written : List X) (us : List Update) (most : ℕ) → OnOk r (SendsOn state number old new lanes written places noted us) → OnErr r (StopsOn state number old new lanes written places noted most) → length written ≡ length lanes
  lanes_long (Ok x) lanes written us most sends stops = sends.go_on.many
  lanes_long (Err e) lanes written us most sends stops = stops.go_on.many

  -- the same in other words
  pub sends_are : {T E : Type 0} (r : Result T E) (lanes lanes' written written' : List X) (us us' : List Update) → lanes ≡ lanes' → written ≡ written' → us ≡ us' → OnOk r (SendsOn state number old new lanes written places noted us) → OnOk r (SendsOn state number old new lanes' written' places noted us')
  sends_are r lanes lanes' written written' us us' a b e sends =
      subst (λ l. OnOk r (SendsOn state number old new l written' places noted us')) a
      (subst (λ w. OnOk r (SendsOn state number old new lanes w places noted us')) b (subst (λ u. OnOk r (SendsOn state number old new lanes written places noted u)) e sends))

  pub stops_are : {T E : Type 0} (r : Result T E) (lanes lanes' written written' : List X) (most most' : ℕ) → lanes ≡ lanes' → written ≡ written' → most ≡ most' → OnErr r (StopsOn state number old new lanes written places noted most) → OnErr r (StopsOn state number old new lanes' written' places noted most')
  stops_are r lanes lanes' written written' most most' a b e stops =
      subst (λ l. OnErr r (StopsOn state number old new l written' places noted most')) a
      (subst (λ w. OnErr r (StopsOn state number old new lanes w places noted most')) b (subst (λ m. OnErr r (StopsOn state number old new lanes written places noted m)) e stops))

pub cause_is : {X T : Type 0} (state : X → DiskState) (r : Result T LaneFault) (lanes lanes' written written' : List X) → lanes ≡ lanes' → written ≡ written' → IfErr r (λ fault. fault ≡ DiskFault → OneRose state lanes written) → IfErr r (λ fault. fault ≡ DiskFault → OneRose state lanes' written')
cause_is state r lanes lanes' written written' a b cause =
    subst (λ l. IfErr r (λ fault. fault ≡ DiskFault → OneRose state l written')) a (subst (λ w. IfErr r (λ fault. fault ≡ DiskFault → OneRose state lanes w)) b cause)

pub calm_is : {X T : Type 0} (state : X → DiskState) (r : Result T LaneFault) (lanes lanes' written written' : List X) → lanes ≡ lanes' → written ≡ written' → OnOk r (NoneRose state lanes written) → OnOk r (NoneRose state lanes' written')
calm_is state r lanes lanes' written written' a b calm =
    subst (λ l. OnOk r (NoneRose state l written')) a (subst (λ w. OnOk r (NoneRose state lanes w)) b calm)

pub edges_in : (split : Split) (format most p first end len vertices count : ℕ) (es items : List Edge) (values : List Value) → IsSplit split → AreChunkIn (edge_layout format) split most p (take count items) → es ≡ items → first ≡ first_vertex split.vertices split.parts p → end ≡ first_vertex split.vertices split.parts (p + 1) → length values ≡ len → len_in split p ≤ len → vertices ≡ split.vertices
    → All (IsFrom first (length (take (end - first) values)) vertices) (take count es)
edges_in split format most p first end len vertices count es items values is are es_is first_is end_is long room all =
    let width : length (take (end - first) values) ≡ len_in split p = length-take-le (end - first) values (omega (arith, long, room, first_is, end_is)) ∙ (λ i. end_is i - first_is i) in
    subst (λ xs. All (IsFrom first (length (take (end - first) values)) vertices) (take count xs)) (sym es_is)
    (subst (λ f. All (IsFrom f (length (take (end - first) values)) vertices) (take count items)) (sym first_is)
    (subst (λ n. All (IsFrom (first_vertex split.vertices split.parts p) n vertices) (take count items)) (sym width)
    (subst (λ v. All (IsFrom (first_vertex split.vertices split.parts p) (len_in split p) v) (take count items)) (sym all) (edges_from split format most p (take count items) is are))))
