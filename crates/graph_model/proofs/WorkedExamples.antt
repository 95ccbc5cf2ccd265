-- The definitions, run on worked examples: each value here was computed by hand.
use Rattle.std.proofs.Common.{◌≡◌, ℕ, ◌-◌, ◌^◌, ◌<◌, zero, suc, List, map, [], ◌∷◌, ◌++◌, Some, None, true, false, refl, ap, arith, codes}
use Rattle.graph_model.specs.declared.edge.Edge.{Edge}
use Rattle.graph_model.specs.declared.edge.TextFault.TheVariants.{BadLine, TooLong}
use Rattle.graph_model.specs.declared.edge.Meaning.TheVariants.{Nothing, One, Malformed}
use Rattle.std.specs.Fmt.{digits}
use Rattle.graph_model.specs.EdgeText.{edges_of_text, refusal, refusal_so_far, text_limit, edges_of_lines, ended_lines, last_part, meaning, number, first_malformed}
use Rattle.graph_model.specs.Programs.{Rules, plus, bfs, labels, sssp, degrees, pagerank}
use Rattle.graph_model.specs.declared.value.Value.{Value}
use Rattle.graph_model.specs.Rounds.{values, value_at, Repeats, IsLastRound, IsUnsettled, has_changed, sent_by_changed, next_by_changed}
use Rattle.graph_model.specs.Answer.{text_of_values}
use Rattle.graph_model.specs.Partitions.{ceil_div, part_count, first_vertex, partition_of, master_of, part_len, own_vertices, own_count, own_before}
use Rattle.std.specs.List.{range_with_len}
use Rattle.graph_model.specs.declared.job.Job.{Job}
use Rattle.graph_model.specs.declared.job.Program.TheVariants.{Sssp}
use Rattle.graph_model.specs.Jobs.{IsWellFormedJob}

-- the bytes of a line that a line feed ends
abbrev text_line : List ℕ → List ℕ
text_line bytes = bytes ++ 10 ∷ []

abbrev answer : Rules → ℕ → List Edge → ℕ → List ℕ
answer p vertices edges round = text_of_values false (values p vertices edges round)

-- Levels: a path of three vertices, and a vertex that is not reached.
path : List ℕ
path = text_line (codes "0 1") ++ text_line (codes "1 2")

levels_of_a_path : answer (bfs 0) 4 (edges_of_text 4 false path) 3
    ≡ text_line (codes "0 0") ++ text_line (codes "1 1") ++ text_line (codes "2 2") ++ text_line (codes "3 -")
unfolding path values edges_of_lines ended_lines last_part meaning number first_malformed digits
levels_of_a_path = refl

-- its values in round 2 are not those of round 1, and those of round 3 are those of round 2
levels_of_round_1 : answer (bfs 0) 4 (edges_of_text 4 false path) 1
    ≡ text_line (codes "0 0") ++ text_line (codes "1 1") ++ text_line (codes "2 -") ++ text_line (codes "3 -")
unfolding path values edges_of_lines ended_lines last_part meaning number first_malformed digits
levels_of_round_1 = refl

levels_repeat : values (bfs 0) 4 (edges_of_text 4 false path) 3 ≡ values (bfs 0) 4 (edges_of_text 4 false path) 2
unfolding path values edges_of_lines ended_lines last_part meaning number first_malformed digits
levels_repeat = refl

-- Labels: without edges each vertex is by itself.
labels_without_edges : answer labels 3 (edges_of_text 3 true []) 1
    ≡ text_line (codes "0 0") ++ text_line (codes "1 1") ++ text_line (codes "2 2")
unfolding values edges_of_lines ended_lines last_part meaning number first_malformed digits
labels_without_edges = refl

-- each line gives both directions, in this order
both_directions : edges_of_text 3 true (text_line (codes "2 1 5"))
    ≡ record { src = 2; dst = 1; weight = 5 } ∷ record { src = 1; dst = 2; weight = 5 } ∷ []
unfolding values edges_of_lines ended_lines last_part meaning number first_malformed digits
both_directions = refl

labels_of_an_edge : answer labels 3 (edges_of_text 3 true (text_line (codes "2 1"))) 2
    ≡ text_line (codes "0 0") ++ text_line (codes "1 1") ++ text_line (codes "2 1")
unfolding values edges_of_lines ended_lines last_part meaning number first_malformed digits
labels_of_an_edge = refl

-- Distances: the way over vertex 2 is shorter.
detour : List ℕ
detour = text_line (codes "0 1 5") ++ text_line (codes "0 2 1") ++ text_line (codes "2 1 1")

distances_of_round_1 : answer (sssp 0) 3 (edges_of_text 3 false detour) 1
    ≡ text_line (codes "0 0") ++ text_line (codes "1 5") ++ text_line (codes "2 1")
unfolding detour values edges_of_lines ended_lines last_part meaning number first_malformed digits
distances_of_round_1 = refl

distances_of_a_detour : answer (sssp 0) 3 (edges_of_text 3 false detour) 3
    ≡ text_line (codes "0 0") ++ text_line (codes "1 2") ++ text_line (codes "2 1")
unfolding detour values edges_of_lines ended_lines last_part meaning number first_malformed digits
distances_of_a_detour = refl

distances_repeat : values (sssp 0) 3 (edges_of_text 3 false detour) 3 ≡ values (sssp 0) 3 (edges_of_text 3 false detour) 2
unfolding detour values edges_of_lines ended_lines last_part meaning number first_malformed digits
distances_repeat = refl

-- round 3 is the last one within a limit of 3, and within a limit of 2 there is none
edges_of_detour : List Edge
edges_of_detour = edges_of_text 3 false detour

main_of_vertex_1 : List Value → ℕ
main_of_vertex_1 found = (value_at found 1).main

round_1_is_new : ¬ (Repeats (sssp 0) 3 edges_of_detour 1)
unfolding edges_of_detour main_of_vertex_1 detour values edges_of_lines ended_lines last_part meaning number first_malformed digits
round_1_is_new repeats = let same : ◌≡◌ {A = ℕ} 5 (2 ^ 64 - 1) = ap main_of_vertex_1 repeats.1 in omega arith

round_2_is_new : ¬ (Repeats (sssp 0) 3 edges_of_detour 2)
unfolding edges_of_detour main_of_vertex_1 detour values edges_of_lines ended_lines last_part meaning number first_malformed digits
round_2_is_new repeats = let same : ◌≡◌ {A = ℕ} 2 5 = ap main_of_vertex_1 repeats.1 in omega arith

-- no round below the third repeats, where neither the first nor the second does
pub new_below_3 : (edges : List Edge) → ¬ (Repeats (sssp 0) 3 edges 1) → ¬ (Repeats (sssp 0) 3 edges 2) → (round : ℕ) → round < 3 → ¬ (Repeats (sssp 0) 3 edges round)
new_below_3 edges first second zero below = λ repeats. omega (arith, repeats.0)
new_below_3 edges first second (suc zero) below = first
new_below_3 edges first second (suc (suc zero)) below = second
new_below_3 edges first second (suc (suc (suc round))) below = omega arith

round_3_is_last : IsLastRound (sssp 0) 3 edges_of_detour 3 3
unfolding edges_of_detour
round_3_is_last = record {
  fixed = λ k fixed. absurd cc;
  repeats = λ _. ((omega arith, distances_repeat), omega arith);
  least = λ _. new_below_3 edges_of_detour round_1_is_new round_2_is_new;
}

unsettled_within_2 : IsUnsettled (sssp 0) 3 edges_of_detour 2
unsettled_within_2 = record { open_ended = refl; never = λ round within. new_below_3 edges_of_detour round_1_is_new round_2_is_new round (omega arith) }

-- Degrees: two edges from 0 to 1.
degrees_of_a_double_edge : text_of_values true (values degrees 2 (edges_of_text 2 false (text_line (codes "0 1") ++ text_line (codes "0 1"))) 1)
    ≡ text_line (codes "0 0 2") ++ text_line (codes "1 2 0")
unfolding values edges_of_lines ended_lines last_part meaning number first_malformed digits
degrees_of_a_double_edge = refl

-- Ranks in rounds 1 and 2.
triangle : List ℕ
triangle = text_line (codes "0 1") ++ text_line (codes "0 2") ++ text_line (codes "1 2")

ranks_of_round_1 : answer (pagerank 1) 3 (edges_of_text 3 false triangle) 1
    ≡ text_line (codes "0 150000") ++ text_line (codes "1 575000") ++ text_line (codes "2 1425000")
unfolding triangle values edges_of_lines ended_lines last_part meaning number first_malformed digits
ranks_of_round_1 = refl

ranks_of_round_2 : answer (pagerank 2) 3 (edges_of_text 3 false triangle) 2
    ≡ text_line (codes "0 150000") ++ text_line (codes "1 213750") ++ text_line (codes "2 702500")
unfolding triangle values edges_of_lines ended_lines last_part meaning number first_malformed digits
ranks_of_round_2 = refl

-- The capped sum.
sums_are_capped : plus (2 ^ 60) 1 ≡ 2 ^ 60
sums_are_capped = refl

-- Lines: carriage returns, a comment, a blank line, tabs, and a last line without line feed.
commented : List ℕ
commented = codes "# Nodes: 3" ++ 13 ∷ 10 ∷ codes "0" ++ 9 ∷ codes "1" ++ 13 ∷ 10 ∷ 13 ∷ 10 ∷ codes "1 2 7"

edges_of_a_commented_text : edges_of_text 3 false commented
    ≡ record { src = 0; dst = 1; weight = 1 } ∷ record { src = 1; dst = 2; weight = 7 } ∷ []
unfolding commented values edges_of_lines ended_lines last_part meaning number first_malformed digits
edges_of_a_commented_text = refl

distances_of_a_commented_text : answer (sssp 0) 3 (edges_of_text 3 false commented) 3
    ≡ text_line (codes "0 0") ++ text_line (codes "1 1") ++ text_line (codes "2 8")
unfolding commented values edges_of_lines ended_lines last_part meaning number first_malformed digits
distances_of_a_commented_text = refl

commented_is_accepted : refusal 3 (text_limit 4096) commented ≡ None
unfolding commented values edges_of_lines ended_lines last_part meaning number first_malformed digits
commented_is_accepted = refl

separators_around : meaning 3 (32 ∷ 9 ∷ codes "1" ++ 9 ∷ 32 ∷ codes "2 " ++ 9 ∷ 13 ∷ []) ≡ One (record { src = 1; dst = 2; weight = 1 })
unfolding values edges_of_lines ended_lines last_part meaning number first_malformed digits
separators_around = refl

indented_comment : meaning 3 (32 ∷ 9 ∷ codes "# 1 2 3 4") ≡ Nothing
unfolding values edges_of_lines ended_lines last_part meaning number first_malformed digits
indented_comment = refl

blank_line : meaning 3 (32 ∷ 9 ∷ 32 ∷ []) ≡ Nothing
unfolding values edges_of_lines ended_lines last_part meaning number first_malformed digits
blank_line = refl

-- only one carriage return is dropped, and only at the end
two_carriage_returns : meaning 3 (codes "0 1" ++ 13 ∷ 13 ∷ []) ≡ Malformed
unfolding values edges_of_lines ended_lines last_part meaning number first_malformed digits
two_carriage_returns = refl

inner_carriage_return : meaning 3 (codes "0" ++ 13 ∷ codes " 1") ≡ Malformed
unfolding values edges_of_lines ended_lines last_part meaning number first_malformed digits
inner_carriage_return = refl

one_field : meaning 3 (codes "1") ≡ Malformed
unfolding values edges_of_lines ended_lines last_part meaning number first_malformed digits
one_field = refl

four_fields : meaning 3 (codes "1 2 1 1") ≡ Malformed
unfolding values edges_of_lines ended_lines last_part meaning number first_malformed digits
four_fields = refl

signed : meaning 3 (codes "-1 2") ≡ Malformed
unfolding values edges_of_lines ended_lines last_part meaning number first_malformed digits
signed = refl

leading_zeros : meaning 4 (codes "00001 003 0000000007") ≡ One (record { src = 1; dst = 3; weight = 7 })
unfolding values edges_of_lines ended_lines last_part meaning number first_malformed digits
leading_zeros = refl

-- Ranges.
id_too_large : meaning 2 (codes "0 2") ≡ Malformed
unfolding values edges_of_lines ended_lines last_part meaning number first_malformed digits
id_too_large = refl

id_far_too_large : meaning 2 (codes "18446744073709551616 0") ≡ Malformed
unfolding values edges_of_lines ended_lines last_part meaning number first_malformed digits
id_far_too_large = refl

weight_zero : meaning 2 (codes "0 1 0") ≡ One (record { src = 0; dst = 1; weight = 0 })
unfolding values edges_of_lines ended_lines last_part meaning number first_malformed digits
weight_zero = refl

weight_of_33_bits : meaning 2 (codes "0 1 4294967296") ≡ One (record { src = 0; dst = 1; weight = 4294967296 })
unfolding values edges_of_lines ended_lines last_part meaning number first_malformed digits
weight_of_33_bits = refl

greatest_weight : meaning 2 (codes "0 1 1099511627775") ≡ One (record { src = 0; dst = 1; weight = 1099511627775 })
unfolding values edges_of_lines ended_lines last_part meaning number first_malformed digits
greatest_weight = refl

weight_too_large : meaning 2 (codes "0 1 1099511627776") ≡ Malformed
unfolding values edges_of_lines ended_lines last_part meaning number first_malformed digits
weight_too_large = refl

-- Refusals.
second_line_is_malformed : refusal 4 (text_limit 4096) (text_line (codes "0 1") ++ text_line (codes "0 x")) ≡ Some (BadLine 2)
unfolding values edges_of_lines ended_lines last_part meaning number first_malformed digits
second_line_is_malformed = refl

comments_are_counted : refusal 4 (text_limit 4096) (text_line (codes "# x") ++ 10 ∷ text_line (codes "x")) ≡ Some (BadLine 3)
unfolding values edges_of_lines ended_lines last_part meaning number first_malformed digits
comments_are_counted = refl

nothing_is_accepted : refusal 0 (text_limit 1) [] ≡ None
unfolding values edges_of_lines ended_lines last_part meaning number first_malformed digits
nothing_is_accepted = refl

two_edges : List ℕ
two_edges = text_line (codes "0 1") ++ text_line (codes "0 1")

longer_than_its_limit : refusal 2 4 two_edges ≡ Some TooLong
unfolding two_edges values edges_of_lines ended_lines last_part meaning number first_malformed digits
longer_than_its_limit = refl

as_long_as_its_limit : refusal 2 8 two_edges ≡ None
unfolding two_edges values edges_of_lines ended_lines last_part meaning number first_malformed digits
as_long_as_its_limit = refl

-- a malformed line counts where its end stands within the limit, and only there
ends_past_the_limit : refusal 2 5 (text_line (codes "0 1") ++ text_line (codes "x")) ≡ Some TooLong
unfolding values edges_of_lines ended_lines last_part meaning number first_malformed digits
ends_past_the_limit = refl

ends_at_the_limit : refusal 2 6 (text_line (codes "0 1") ++ text_line (codes "x")) ≡ Some (BadLine 2)
unfolding values edges_of_lines ended_lines last_part meaning number first_malformed digits
ends_at_the_limit = refl

text_ends_at_the_limit : refusal 2 5 (text_line (codes "0 1") ++ codes "x") ≡ Some (BadLine 2)
unfolding values edges_of_lines ended_lines last_part meaning number first_malformed digits
text_ends_at_the_limit = refl

goes_on_past_the_limit : refusal_so_far 2 5 (text_line (codes "0 1") ++ codes "x") ≡ None
unfolding values edges_of_lines ended_lines last_part meaning number first_malformed digits
goes_on_past_the_limit = refl

-- the limit of a text is that of its chunks, or 2 ^ 40
limit_of_small_chunks : text_limit 1 ≡ 2147483648
limit_of_small_chunks = refl

limit_of_large_chunks : text_limit 4096 ≡ 1099511627776
limit_of_large_chunks = refl

-- Partitions: five vertices on two engines, at most two vertices in each.
parts_of_five : part_count 5 2 2 ≡ 4
parts_of_five = refl

span_of_five : ceil_div 5 4 ≡ 2
span_of_five = refl

ranges_of_five : first_vertex 5 4 0 ∷ first_vertex 5 4 1 ∷ first_vertex 5 4 2 ∷ first_vertex 5 4 3 ∷ first_vertex 5 4 4 ∷ [] ≡ 0 ∷ 2 ∷ 4 ∷ 5 ∷ 5 ∷ []
ranges_of_five = refl

last_vertex_of_five : (partition_of 5 4 4 ≡ 2) × (master_of 2 2 ≡ 0)
last_vertex_of_five = (refl, refl)

-- more partitions than a job may have
parts_of_a_thousand : part_count 1000 1 10 ≡ 100
parts_of_a_thousand = refl

-- without vertices, one empty partition for each engine
parts_of_none : part_count 0 3 2097152 ≡ 3
parts_of_none = refl

-- as many as there can be on eight engines with the default most
parts_of_the_most : part_count 67108864 8 2097152 ≡ 32
parts_of_the_most = refl

-- the ranges of five vertices in four partitions, and what each of two engines is the master of
lengths_of_five : map (part_len 5 4) (range_with_len 0 4) ≡ 2 ∷ 2 ∷ 1 ∷ 0 ∷ []
lengths_of_five = refl

owned_of_five : (own_vertices 5 2 4 0 ≡ 0 ∷ 1 ∷ 4 ∷ []) × (own_vertices 5 2 4 1 ≡ 2 ∷ 3 ∷ [])
owned_of_five = (refl, refl)

counts_of_five : (own_count 5 2 4 0 ≡ 3) × (own_count 5 2 4 1 ≡ 2) × (own_before 5 2 4 2 ≡ 2) × (own_before 5 2 4 1 ≡ 0)
counts_of_five = (refl, refl, refl, refl)

-- What changed: vertex 1 alone, so its edge alone sends.
first_of_detour : List Value
first_of_detour = values (sssp 0) 3 edges_of_detour 1

second_of_detour : List Value
second_of_detour = values (sssp 0) 3 edges_of_detour 2

changed_in_round_2 : map (has_changed first_of_detour second_of_detour) (range_with_len 0 3) ≡ false ∷ true ∷ false ∷ []
unfolding first_of_detour second_of_detour edges_of_detour detour values edges_of_lines ended_lines last_part meaning number first_malformed digits
changed_in_round_2 = refl

sent_in_round_2 : (sent_by_changed (sssp 0) edges_of_detour (values (sssp 0) 3 edges_of_detour 0) first_of_detour 1 ≡ 2 ∷ [])
    × (next_by_changed (sssp 0) 3 edges_of_detour (values (sssp 0) 3 edges_of_detour 0) first_of_detour ≡ second_of_detour)
unfolding first_of_detour second_of_detour edges_of_detour detour values edges_of_lines ended_lines last_part meaning number first_malformed digits
sent_in_round_2 = (refl, refl)

-- A job that can be run, and one whose root is no vertex.
distances_job : ℕ → Job
distances_job root = record {
  program = Sssp root;
  vertices = 3;
  engines = 1;
  most = 2097152;
  chunk = 4096;
  seed = 1;
  alpha = 100;
  limit = 100000;
  format = 2;
  keep = 1;
}

can_be_run : IsWellFormedJob (distances_job 0)
unfolding distances_job
can_be_run = record {
  program = omega arith;
  vertices = omega arith;
  engines = (omega arith, omega arith);
  most = (omega arith, omega arith);
  chunk = (omega arith, omega arith);
  seed = omega arith;
  alpha = omega arith;
  limit = (omega arith, omega arith);
  format = (omega arith, omega arith);
  keep = refl;
  few_parts = omega arith;
}

has_no_such_root : ¬ (IsWellFormedJob (distances_job 3))
unfolding distances_job
has_no_such_root job = let root : 3 < 3 = job.program in omega arith
