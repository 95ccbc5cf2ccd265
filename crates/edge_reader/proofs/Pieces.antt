-- A piece of a text, byte by byte, and what follows for the whole text.
use Rattle.std.proofs.Common.{◌≡◌, ℕ, ◌+◌, ◌-◌, ◌^◌, ◌<◌, ◌≤◌, List, [], ◌∷◌, ◌++◌, length, take, drop, get_or, min, Bool, true, false, Option, Some, None, Result, Ok, Err, inl, inr, nat_lt, nat_le, refl, sym, ◌∙◌, ap, subst, append_assoc, arith, length-append}
use Rattle.std.specs.List.{All}
use Rattle.std.specs.Result.{OnOk, IfErr}
use Rattle.std.proofs.lemmas.Bool.Decides.{nat_tests}
use Rattle.std.proofs.lemmas.List.{append-nil, length-take, take_all, take_min, take_more, take-append-drop}
use Rattle.std.proofs.Math.Seq.{take-append-add, drop-append_seam}
use Rattle.graph_model.specs.declared.edge.Edge.{Edge}
use Rattle.graph_model.specs.declared.edge.TextFault.{TextFault}
use Rattle.graph_model.specs.declared.edge.TextFault.TheVariants.{BadLine, TooLong}
use Rattle.graph_model.specs.EdgeText.{is_line_feed, ended_lines, last_part, last_line, lines, edges_said, edges_of_lines, is_malformed, first_malformed, refused_for, refusal_so_far, refusal}
use Rattle.graph_model.proofs.TextLemmas.{ended_lines-feed, ended_lines-byte, edges_of_ended-append, ended_lines-append, first_malformed-append_some, first_malformed-le, length-ended_lines-le, length-lines-le, edges_of_lines-within}
use Rattle.graph_model.proofs.ListLemmas.{All-behind}
use Rattle.edge_reader.specs.declared.line.Line.{Line}
use Rattle.edge_reader.specs.declared.reader.EdgeReader.{EdgeReader}
use Rattle.edge_reader.specs.Line.{empty_line, line_after, line_end}
use Rattle.edge_reader.specs.Reading.{most_lines, Reads, HasRead, Adds, AddsSome, AddsWithin, Feeds, Finishes, IsLineFault, ReadsOn, StopsIn}
use Rattle.edge_reader.proofs.ReadLines.{IsLast-one, IsLast-end, Adds-last, AddsSome-last, cause_last, first_malformed-last, Reads-byte, Reads-feed}
use Rattle.edge_reader.proofs.LineMeaning.{not_below}

-- No byte.
pub ReadsOn-nil : (r : EdgeReader) (items : List Edge) → ReadsOn r r [] items items
ReadsOn-nil r items = record {
  rest = refl;
  reads = λ vertices both text reads. let P : List ℕ → Type 0 = λ t. Reads vertices both r t in subst P (sym (append-nil text)) reads;
  added = λ vertices both text reads. (
    [],
    sym (append-nil items),
    ap (λ t. edges_of_lines vertices both (ended_lines t)) (append-nil text)
        ∙ sym (append-nil (edges_of_lines vertices both (ended_lines text))),
  );
}

-- One more byte, which is no line feed.
pub ReadsOn-byte : (old mid : EdgeReader) (bytes : List ℕ) (b : ℕ) (before now : List Edge) → ReadsOn old mid bytes before now
    → is_line_feed b ≡ false → ReadsOn old (record mid { line = line_after mid.vertices mid.line b }) (bytes ++ b ∷ []) before now
ReadsOn-byte old mid bytes b before now on e = record {
  rest = ap (λ (m : EdgeReader). record m { line = line_after mid.vertices mid.line b }) on.rest;
  reads = λ vertices both text reads.
      let P : List ℕ → Type 0 = λ t. Reads vertices both (record mid { line = line_after mid.vertices mid.line b }) t in
      subst P (append_assoc text bytes (b ∷ [])) (Reads-byte vertices both mid (text ++ bytes) b (on.reads vertices both text reads) e);
  added = λ vertices both text reads.
      let so_far = on.added vertices both text reads in (
        so_far.0,
        so_far.1,
        ap (λ t. edges_of_lines vertices both (ended_lines t)) (sym (append_assoc text bytes (b ∷ [])))
            ∙ ap (edges_of_lines vertices both) (ended_lines-byte (text ++ bytes) b e)
            ∙ so_far.2,
      );
}

-- Two runs, one after the other.
Adds-then : (a b c x y z : List Edge) → Adds a b x y → Adds b c y z → Adds a c x z
Adds-then a b c x y z first second = (
  first.0 ++ second.0,
  second.1 ∙ ap (λ es. es ++ second.0) first.1 ∙ append_assoc x first.0 second.0,
  second.2 ∙ ap (λ es. es ++ second.0) first.2 ∙ append_assoc a first.0 second.0,
)

AddsSome-then : (a b c x y z : List Edge) → Adds a b x y → AddsSome b c y z → AddsSome a c x z
AddsSome-then a b c x y z first second = (
  first.0 ++ second.0,
  second.1,
  second.2 ∙ ap (λ es. es ++ second.0) first.1 ∙ append_assoc x first.0 second.0,
  second.3 ∙ ap (λ es. es ++ (second.0 ++ second.1)) first.2 ∙ append_assoc a first.0 (second.0 ++ second.1)
      ∙ ap (λ es. a ++ es) (sym (append_assoc first.0 second.0 second.1)),
)

AddsSome-more : (a b c x y more : List Edge) → AddsSome a b x y → c ≡ b ++ more → AddsSome a c x y
AddsSome-more a b c x y more some e = (
  some.0,
  some.1 ++ more,
  some.2,
  e ∙ ap (λ es. es ++ more) some.3 ∙ append_assoc a (some.0 ++ some.1) more ∙ ap (λ es. a ++ es) (append_assoc some.0 some.1 more),
)

AddsSome-all : (a b x y : List Edge) → Adds a b x y → AddsSome a b x y
AddsSome-all a b x y all = (all.0, [], all.1, all.2 ∙ ap (λ es. a ++ es) (sym (append-nil all.0)))

-- A line feed.
lines_then : (text bytes : List ℕ) → ended_lines (text ++ (bytes ++ 10 ∷ [])) ≡ ended_lines (text ++ bytes) ++ last_part (text ++ bytes) ∷ []
lines_then text bytes = ap ended_lines (sym (append_assoc text bytes (10 ∷ []))) ∙ ended_lines-feed (text ++ bytes)

pub ReadsOn-feed : (old mid : EdgeReader) (bytes : List ℕ) (before now after : List Edge) → ReadsOn old mid bytes before now
    → is_malformed (line_end mid.vertices mid.line) ≡ false → after ≡ now ++ edges_said mid.both (line_end mid.vertices mid.line)
    → ReadsOn old (record mid { ended = min (mid.ended + 1) most_lines; line = empty_line }) (bytes ++ 10 ∷ []) before after
ReadsOn-feed old mid bytes before now after on good e = record {
  rest = ap (λ (m : EdgeReader). record m { ended = min (mid.ended + 1) most_lines; line = empty_line }) on.rest;
  reads = λ vertices both text reads.
      let P : List ℕ → Type 0 = λ t. Reads vertices both (record mid { ended = min (mid.ended + 1) most_lines; line = empty_line }) t in
      subst P (append_assoc text bytes (10 ∷ [])) (Reads-feed vertices both mid (text ++ bytes) (on.reads vertices both text reads) good);
  added = λ vertices both text reads.
      let P : List (List ℕ) → Type 0 = λ ls. Adds (edges_of_lines vertices both (ended_lines text)) (edges_of_lines vertices both ls) before after in
      subst P (sym (lines_then text bytes))
      (Adds-then _ _ _ before now after (on.added vertices both text reads)
      (Adds-last vertices both mid (text ++ bytes) (last_part (text ++ bytes) ∷ []) now after (on.reads vertices both text reads)
      (IsLast-one vertices both (last_part (text ++ bytes))) e));
}

number_of_line : (vertices : ℕ) (both : Bool) (r : EdgeReader) (text : List ℕ) → Reads vertices both r text
    → min (r.ended + 1) most_lines ≡ min (length (ended_lines text) + 1) most_lines
number_of_line vertices both r text reads = let count = reads.count in omega arith

pub StopsIn-feed : (old mid : EdgeReader) (bytes rest whole : List ℕ) (before now after : List Edge) (fault : TextFault)
    → ReadsOn old mid bytes before now
    → IsLineFault (min (mid.ended + 1) most_lines) (line_end mid.vertices mid.line) mid.both now after fault
    → whole ≡ (bytes ++ 10 ∷ []) ++ rest → StopsIn old whole before after fault
StopsIn-feed old mid bytes rest whole before now after fault on stops e = record {
  cause = λ vertices both text reads.
      let now_reads = on.reads vertices both text reads in
      let all : text ++ whole ≡ (text ++ (bytes ++ 10 ∷ [])) ++ rest =
      ap (λ t. text ++ t) e ∙ sym (append_assoc text (bytes ++ 10 ∷ []) rest) in
      let more = ended_lines-append (text ++ (bytes ++ 10 ∷ [])) rest in
      elim (cause_last vertices both mid (text ++ bytes) (last_part (text ++ bytes) ∷ []) (min (mid.ended + 1) most_lines) now after fault
      now_reads (IsLast-one vertices both (last_part (text ++ bytes))) stops) [
        | inl memory ↦ inl memory
        | inr bad ↦ inr (
          length (ended_lines (text ++ bytes)) + 1,
          ap (λ t. first_malformed vertices (ended_lines t)) all
              ∙ ap (first_malformed vertices) more.1
              ∙ first_malformed-append_some vertices (length (ended_lines (text ++ bytes)) + 1) (ended_lines (text ++ (bytes ++ 10 ∷ []))) more.0
              (ap (first_malformed vertices) (lines_then text bytes) ∙ bad.0),
          bad.1 ∙ ap BadLine (number_of_line vertices both mid (text ++ bytes) now_reads),
        )
      ];
  front = λ vertices both text reads.
      let all : text ++ whole ≡ (text ++ (bytes ++ 10 ∷ [])) ++ rest =
      ap (λ t. text ++ t) e ∙ sym (append_assoc text (bytes ++ 10 ∷ []) rest) in
      let more = edges_of_ended-append vertices both (text ++ (bytes ++ 10 ∷ [])) rest in
      let P : List (List ℕ) → Type 0 = λ ls. AddsSome (edges_of_lines vertices both (ended_lines text)) (edges_of_lines vertices both ls) before after in
      AddsSome-more _ _ _ before after more.0
      (subst P (sym (lines_then text bytes))
      (AddsSome-then _ _ _ before now after (on.added vertices both text reads)
      (AddsSome-last vertices both mid (text ++ bytes) (last_part (text ++ bytes) ∷ []) (min (mid.ended + 1) most_lines) now after fault
      (on.reads vertices both text reads) (IsLast-one vertices both (last_part (text ++ bytes))) stops)))
      (ap (λ t. edges_of_lines vertices both (ended_lines t)) all ∙ more.1);
}

-- The bytes within the limit.
within_limit : (text piece : List ℕ) (left limit room : ℕ) → left + length text ≡ limit → room ≡ min left (length piece)
    → take limit (text ++ piece) ≡ text ++ take room piece
within_limit text piece left limit room e r =
    let sum : limit ≡ length text + left = omega arith in
    ap (λ n. take n (text ++ piece)) sum
    ∙ take-append-add text piece left
    ∙ ap (λ bytes. text ++ bytes) (sym (take_min left piece))
    ∙ ap (λ n. text ++ take n piece) (sym r)

Adds-within : (vertices : ℕ) (both : Bool) (ls : List (List ℕ)) (before old new : List Edge)
    → Adds before (edges_of_lines vertices both ls) old new → AddsWithin vertices old new
Adds-within vertices both ls before old new adds =
    let P : Edge → Type 0 = λ e. (e.src < vertices) × (e.dst < vertices) in
    let Q : List Edge → Type 0 = λ es. All P es in
    let all : Q (before ++ adds.0) = subst Q adds.2 (edges_of_lines-within vertices both ls) in
    subst Q (sym (ap (drop (length old)) adds.1 ∙ drop-append_seam old adds.0)) (All-behind P before adds.0 all)

-- What a reader has read does not depend on what it may still take, nor on a refusal.
Reads-left : (vertices : ℕ) (both : Bool) (r : EdgeReader) (text : List ℕ) (left : ℕ) → Reads vertices both r text
    → Reads vertices both (record r { left = left }) text
Reads-left vertices both r text left reads = record {
  of_vertices = reads.of_vertices;
  range = reads.range;
  of_both = reads.of_both;
  count = reads.count;
  line = reads.line;
  good = reads.good;
}

Reads-refused : (vertices : ℕ) (both : Bool) (r : EdgeReader) (text : List ℕ) (refused : Option TextFault) → Reads vertices both r text
    → Reads vertices both (record r { refused = refused }) text
Reads-refused vertices both r text refused reads = record {
  of_vertices = reads.of_vertices;
  range = reads.range;
  of_both = reads.of_both;
  count = reads.count;
  line = reads.line;
  good = reads.good;
}

is_long : (limit n : ℕ) → limit < n → nat_lt limit n ≡ true
is_long limit n h = grind (arith, nat_tests)

-- The whole piece was read.
pub Feeds-ok : (vertices : ℕ) (both : Bool) (limit : ℕ) (text piece head : List ℕ) (room : ℕ) (old new : EdgeReader) (before after : List Edge)
    → HasRead vertices both limit old text → room ≡ min old.left (length piece) → head ≡ take room piece → length piece ≤ room
    → ReadsOn (record old { left = old.left - room }) new head before after
    → Feeds vertices both limit text piece before after (record new { refused = None }) (Ok tt)
Feeds-ok vertices both limit text piece head room old new before after has r h all on =
    let whole : head ≡ piece = h ∙ take_all room piece all in
    let had = Reads-left vertices both old text (old.left - room) has.reads in
    let now : Reads vertices both new (text ++ piece) =
    (let P : List ℕ → Type 0 = λ bytes. Reads vertices both new (text ++ bytes) in subst P whole (on.reads vertices both text had)) in
    let added : Adds (edges_of_lines vertices both (ended_lines text)) (edges_of_lines vertices both (ended_lines (text ++ piece))) before after =
    (let P : List ℕ → Type 0 = λ bytes. Adds (edges_of_lines vertices both (ended_lines text)) (edges_of_lines vertices both (ended_lines (text ++ bytes))) before after in
    subst P whole (on.added vertices both text had)) in
    let left : new.left ≡ old.left - room = ap (λ (m : EdgeReader). m.left) on.rest in
    let length_all = length-append text piece in
    let had_room = has.room in
    let fits : length (text ++ piece) ≤ limit = omega arith in
    record {
      reads = record {
        reads = Reads-refused vertices both new (text ++ piece) None now;
        room = omega arith;
        bound = has.bound;
        stands = refl;
      };
      accepted =
          ap (λ bytes. refused_for (first_malformed vertices (ended_lines bytes)) (nat_lt limit (length (text ++ piece)))) (take_all limit (text ++ piece) fits)
          ∙ ap (λ bad. refused_for bad (nat_lt limit (length (text ++ piece)))) now.good
          ∙ ap (refused_for None) (not_below limit (length (text ++ piece)) fits);
      added = added;
      within = Adds-within vertices both (ended_lines (text ++ piece)) (edges_of_lines vertices both (ended_lines text)) before after added;
      fault = tt;
      refused = tt;
      front = tt;
    }

-- The limit stands within the piece.
pub Feeds-long : (vertices : ℕ) (both : Bool) (limit : ℕ) (text piece head : List ℕ) (room : ℕ) (old new : EdgeReader) (before after : List Edge)
    → HasRead vertices both limit old text → room ≡ min old.left (length piece) → head ≡ take room piece → room < length piece
    → ReadsOn (record old { left = old.left - room }) new head before after
    → Feeds vertices both limit text piece before after (record new { refused = Some TooLong }) (Err TooLong)
Feeds-long vertices both limit text piece head room old new before after has r h more on =
    let had = Reads-left vertices both old text (old.left - room) has.reads in
    let front : take limit (text ++ piece) ≡ text ++ head =
    within_limit text piece old.left limit room has.room r ∙ ap (λ bytes. text ++ bytes) (sym h) in
    let now = on.reads vertices both text had in
    let length_all = length-append text piece in
    let had_room = has.room in
    let long : nat_lt limit (length (text ++ piece)) ≡ true = is_long limit (length (text ++ piece)) (omega arith) in
    let P : List ℕ → Type 0 = λ bytes. AddsSome (edges_of_lines vertices both (ended_lines text)) (edges_of_lines vertices both (ended_lines bytes)) before after in
    record {
      reads = tt;
      accepted = tt;
      added = tt;
      within = tt;
      fault = inr (ap (λ bytes. refused_for (first_malformed vertices (ended_lines bytes)) (nat_lt limit (length (text ++ piece)))) front
          ∙ ap (λ bad. refused_for bad (nat_lt limit (length (text ++ piece)))) now.good
          ∙ ap (refused_for None) long);
      refused = refl;
      front = subst P (sym front) (AddsSome-all _ _ before after (on.added vertices both text had));
    }

refused_line : (vertices limit : ℕ) (text piece head : List ℕ) (room : ℕ) (old : EdgeReader) (k : ℕ) (fault : TextFault)
    → old.left + length text ≡ limit → limit < 2 ^ 64 → room ≡ min old.left (length piece) → head ≡ take room piece
    → take limit (text ++ piece) ≡ text ++ head → first_malformed vertices (ended_lines (text ++ head)) ≡ Some k
    → fault ≡ BadLine (min k most_lines) → refusal_so_far vertices limit (text ++ piece) ≡ Some fault
refused_line vertices limit text piece head room old k fault had_room bound r h front bad e =
    let few = first_malformed-le vertices k (ended_lines (text ++ head)) bad in
    let bytes = length-ended_lines-le (text ++ head) in
    let sum = length-append text head in
    let part : length head ≡ min room (length piece) = ap length h ∙ length-take room piece in
    let counted : min k most_lines ≡ k = omega arith in
    ap (λ front_bytes. refused_for (first_malformed vertices (ended_lines front_bytes)) (nat_lt limit (length (text ++ piece)))) front
    ∙ ap (λ found. refused_for found (nat_lt limit (length (text ++ piece)))) bad
    ∙ ap Some (sym (e ∙ ap BadLine counted))

-- A line was not taken.
pub Feeds-err : (vertices : ℕ) (both : Bool) (limit : ℕ) (text piece head : List ℕ) (room : ℕ) (old new : EdgeReader) (before after : List Edge) (fault : TextFault)
    → HasRead vertices both limit old text → room ≡ min old.left (length piece) → head ≡ take room piece
    → StopsIn (record old { left = old.left - room }) head before after fault
    → Feeds vertices both limit text piece before after (record new { refused = Some fault }) (Err fault)
Feeds-err vertices both limit text piece head room old new before after fault has r h stops =
    let had = Reads-left vertices both old text (old.left - room) has.reads in
    let front : take limit (text ++ piece) ≡ text ++ head =
    within_limit text piece old.left limit room has.room r ∙ ap (λ bytes. text ++ bytes) (sym h) in
    let P : List ℕ → Type 0 = λ bytes. AddsSome (edges_of_lines vertices both (ended_lines text)) (edges_of_lines vertices both (ended_lines bytes)) before after in
    record {
      reads = tt;
      accepted = tt;
      added = tt;
      within = tt;
      fault = elim (stops.cause vertices both text had) [
        | inl memory ↦ inl memory
        | inr bad ↦ inr (refused_line vertices limit text piece head room old bad.0 fault has.room has.bound r h front bad.1 bad.2)
      ];
      refused = refl;
      front = subst P (sym front) (stops.front vertices both text had);
    }

-- The end of the text.
refusal_of_lines : (vertices limit : ℕ) (text : List ℕ) → length text ≤ limit
    → refusal vertices limit text ≡ refused_for (first_malformed vertices (lines text)) false
refusal_of_lines vertices limit text fits =
    let short : nat_le (length text) limit ≡ true = grind (arith, nat_tests) in
    rw (short, not_below limit (length text) fits) refl

refusal_at_end : (vertices limit : ℕ) (text : List ℕ) → length text ≤ limit → first_malformed vertices (lines text) ≡ None
    → refusal vertices limit text ≡ None
refusal_at_end vertices limit text fits good = refusal_of_lines vertices limit text fits ∙ ap (λ bad. refused_for bad false) good

refused_at_end : (vertices limit : ℕ) (text : List ℕ) (k : ℕ) (fault : TextFault) → limit < 2 ^ 64 → length text ≤ limit
    → first_malformed vertices (lines text) ≡ Some k → fault ≡ BadLine (min k most_lines) → refusal vertices limit text ≡ Some fault
refused_at_end vertices limit text k fault bound fits bad e =
    let few = first_malformed-le vertices k (lines text) bad in
    let bytes = length-lines-le text in
    let counted : min k most_lines ≡ k = omega arith in
    refusal_of_lines vertices limit text fits ∙ ap (λ found. refused_for found false) bad ∙ ap Some (sym (e ∙ ap BadLine counted))

pub Finishes-end : (vertices : ℕ) (both : Bool) (limit : ℕ) (r : EdgeReader) (text : List ℕ) (old new : List Edge) (result : Result (Unit {0}) TextFault)
    → HasRead vertices both limit r text
    → OnOk result ((is_malformed (line_end r.vertices r.line) ≡ false) × (new ≡ old ++ edges_said r.both (line_end r.vertices r.line)))
    → IfErr result (IsLineFault (min (r.ended + 1) most_lines) (line_end r.vertices r.line) r.both old new)
    → Finishes vertices both limit text old new result
Finishes-end vertices both limit r text old new (Ok u) has ok err =
    let had_room = has.room in
    let fits : length text ≤ limit = omega arith in
    let last = IsLast-end vertices both (last_part text) in
    let added = Adds-last vertices both r text (last_line (last_part text)) old new has.reads last ok.1 in
    record {
      accepted = refusal_at_end vertices limit text fits
          (first_malformed-last vertices both r text (last_line (last_part text)) has.reads last ok.0);
      added = added;
      within = Adds-within vertices both (lines text) (edges_of_lines vertices both (ended_lines text)) old new added;
      fault = tt;
      front = tt;
    }
Finishes-end vertices both limit r text old new (Err fault) has ok err =
    let last = IsLast-end vertices both (last_part text) in
    record {
      accepted = tt;
      added = tt;
      within = tt;
      fault = elim (cause_last vertices both r text (last_line (last_part text)) (min (r.ended + 1) most_lines) old new fault has.reads last err) [
        | inl memory ↦ inl memory
        | inr bad ↦ inr (refused_at_end vertices limit text (length (ended_lines text) + 1) fault has.bound
            (let had_room = has.room in omega arith) bad.0
            (bad.1 ∙ ap BadLine (number_of_line vertices both r text has.reads)))
      ];
      front = AddsSome-last vertices both r text (last_line (last_part text)) (min (r.ended + 1) most_lines) old new fault has.reads last err;
    }

-- The loop over the bytes.
taken_more : (bytes : List ℕ) (i b : ℕ) → i < length bytes → get_or bytes i 0 ≡ b → take (i + 1) bytes ≡ take i bytes ++ b ∷ []
taken_more bytes i b h e = take_more bytes i 0 h ∙ ap (λ x. take i bytes ++ x ∷ []) e

pub loop_byte : (old self : EdgeReader) (line line' : Line) (bytes : List ℕ) (i : ℕ) (before now : List Edge) → i < length bytes
    → (get_or bytes i 0 ≡ 10 → ⊥) → ReadsOn old (record self { line = line }) (take i bytes) before now
    → line' ≡ line_after self.vertices line (get_or bytes i 0)
    → ReadsOn old (record self { line = line' }) (take (i + 1) bytes) before now
loop_byte old self line line' bytes i before now h other on e =
    let no_feed : is_line_feed (get_or bytes i 0) ≡ false = grind (arith, nat_tests) in
    let P : List ℕ → Type 0 = λ bs. ReadsOn old (record self { line = line' }) bs before now in
    let Q : Line → Type 0 = λ l. ReadsOn old (record self { line = l }) (take i bytes ++ get_or bytes i 0 ∷ []) before now in
    subst P (sym (taken_more bytes i (get_or bytes i 0) h refl))
    (subst Q (sym e) (ReadsOn-byte old (record self { line = line }) (take i bytes) (get_or bytes i 0) before now on no_feed))

pub loop_feed : (old self self' : EdgeReader) (line line' : Line) (bytes : List ℕ) (i : ℕ) (before now after : List Edge) → i < length bytes
    → get_or bytes i 0 ≡ 10 → ReadsOn old (record self { line = line }) (take i bytes) before now
    → self' ≡ record self { ended = min (self.ended + 1) most_lines } → line' ≡ empty_line
    → (is_malformed (line_end self.vertices line) ≡ false) × (after ≡ now ++ edges_said self.both (line_end self.vertices line))
    → ReadsOn old (record self' { line = line' }) (take (i + 1) bytes) before after
loop_feed old self self' line line' bytes i before now after h e on counts fresh ok =
    let P : List ℕ → Type 0 = λ bs. ReadsOn old (record self' { line = line' }) bs before after in
    let Q : EdgeReader → Type 0 = λ r. ReadsOn old r (take i bytes ++ 10 ∷ []) before after in
    let same : record self' { line = line' } ≡ record self { ended = min (self.ended + 1) most_lines; line = empty_line } =
    ap (λ (r : EdgeReader). record r { line = line' }) counts
    ∙ ap (λ (l : Line). record self { ended = min (self.ended + 1) most_lines; line = l }) fresh in
    subst P (sym (taken_more bytes i 10 h e))
    (subst Q (sym same) (ReadsOn-feed old (record self { line = line }) (take i bytes) before now after on ok.0 ok.1))

pub loop_stop : (old self : EdgeReader) (line : Line) (bytes : List ℕ) (i : ℕ) (before now after : List Edge) (fault : TextFault) → i < length bytes
    → get_or bytes i 0 ≡ 10 → ReadsOn old (record self { line = line }) (take i bytes) before now
    → IsLineFault (min (self.ended + 1) most_lines) (line_end self.vertices line) self.both now after fault
    → StopsIn old bytes before after fault
loop_stop old self line bytes i before now after fault h e on stops =
    StopsIn-feed old (record self { line = line }) (take i bytes) (drop (i + 1) bytes) bytes before now after fault on stops
    (sym (take-append-drop (i + 1) bytes) ∙ ap (λ bs. bs ++ drop (i + 1) bytes) (taken_more bytes i 10 h e))
