-- What is printed of a round that is read.
use Rattle.std.proofs.Common.{◌≡◌, ℕ, ◌^◌, ◌≤◌, Option, Some, None, List, [], ◌++◌, length, take, drop, refl, arith}
use Rattle.std.proofs.lemmas.List.{take-append-drop}
use Rattle.graph_model.specs.declared.edge.Edge.{Edge}
use Rattle.graph_model.specs.declared.job.Job.{Job}
use Rattle.graph_model.specs.declared.job.Program.{Program}
use Rattle.graph_model.specs.declared.job.Program.TheVariants.{Bfs, Labels, Sssp, Degrees, PageRank}
use Rattle.graph_model.specs.Jobs.{IsWellFormedJob}
use Rattle.graph_model.specs.Programs.{rules_of, shows_side}
use Rattle.graph_model.specs.Rounds.{IsLastRound, IsWithinGraph, values}
use Rattle.graph_model.specs.Answer.{text_of_values}
use Rattle.graph_model.proofs.RoundLemmas.{length-values}
use Rattle.gather_laws.specs.Laws.{HaveRoom, IsCapped, IsCappedOrNone}
use Rattle.gather_laws.proofs.RoomLemmas.{values_fit}
use Rattle.vertex_programs.specs.LeastLaws.{bfs_laws, labels_laws, sssp_laws}
use Rattle.vertex_programs.specs.TotalLaws.{degrees_laws, pagerank_laws}
use Rattle.ports.specs.Disk.{DiskState}
use Rattle.ports.specs.Sink.{Appends, AppendsFront}
use Rattle.ports.specs.Told.{AsTold}
use Rattle.store_model.specs.Slots.{slot_of}
use Rattle.restart.proofs.HeadsOfJobs.{few_vertices}
use Rattle.partitioner.specs.Splits.{split_for}
use Rattle.round_loop.specs.Kept.{IsRead}
use Rattle.store_reader.specs.Values.{HoldValues}
use Rattle.round_steps.proofs.Holding.{hold_values}
use Rattle.answer_lines.specs.Printing.{PrintsAll, PrintsFront}
use Rattle.answer_lines.proofs.Answered.{prints_these, prints_front_of_these}
use Rattle.store_rounds.specs.Printed.{AnswerPrinted, FrontPrinted}

-- Both numbers of each value of a round have room in 64 bits.
rooms : (program : Program) (n : ℕ) (edges : List Edge) (round : ℕ) → n ≤ 2 ^ 32 → IsWithinGraph n edges → HaveRoom (values (rules_of program) n edges round)
rooms (Bfs root) n edges round few within = values_fit (rules_of (Bfs root)) IsCappedOrNone (bfs_laws root) n edges few within round
rooms Labels n edges round few within = values_fit (rules_of Labels) IsCappedOrNone labels_laws n edges few within round
rooms (Sssp root) n edges round few within = values_fit (rules_of (Sssp root)) IsCappedOrNone (sssp_laws root) n edges few within round
rooms Degrees n edges round few within = values_fit (rules_of Degrees) IsCapped degrees_laws n edges few within round
rooms (PageRank rounds) n edges round few within = values_fit (rules_of (PageRank rounds)) IsCapped (pagerank_laws rounds) n edges few within round

-- what was written of a piece is its front
parts_of_front : (piece : List ℕ) (old new : Option (List ℕ)) → AsTold (AppendsFront piece) old new → (printed : List ℕ) × (rest : List ℕ) × AsTold (Appends printed) old new × (printed ++ rest ≡ piece)
parts_of_front piece (Some old) (Some new) told = (take told.0 piece, drop told.0 piece, told.2, take-append-drop told.0 piece)
parts_of_front piece (Some old) None told = absurd told
parts_of_front piece None (Some new) told = absurd told
parts_of_front piece None None told = ([], piece, tt, refl)

module _ {D : Type 0} (state : D → DiskState) (job : Job) (edges : List Edge) (round : ℕ) (devices : List D) (well : IsWellFormedJob job) (graph : IsWithinGraph job.vertices edges) (many : length devices ≡ job.engines)
    (read : IsRead (rules_of job.program) job edges state round devices) where
  -- **The values of the round stand in its slot.**
  pub held : HoldValues state (split_for job) devices (slot_of round) (values (rules_of job.program) job.vertices edges round)
  held = hold_values state (split_for job) devices many some (slot_of round) (values (rules_of job.program) job.vertices edges round)
      (length-values (rules_of job.program) job.vertices edges round) (rooms job.program job.vertices edges round (omega (arith, few_vertices job well)) graph)
      (λ e d below. let gives = read e d below in record { read = gives.0; told = gives.1; stands = gives.2.values_are })
    where
      some : 1 ≤ job.engines
      some = well.engines.0

  -- **All lines of the last round are the answer.**
  pub whole_answer : (old new : Option (List ℕ)) → IsLastRound (rules_of job.program) job.vertices edges job.limit round
      → PrintsAll state (split_for job) devices (slot_of round) (shows_side job.program) old new → AnswerPrinted job edges old new
  whole_answer old new last prints = record {
    printed = text_of_values (shows_side job.program) (values (rules_of job.program) job.vertices edges round);
    prints = prints_these state (split_for job) devices (slot_of round) (shows_side job.program) (values (rules_of job.program) job.vertices edges round) held old new prints;
    is_answer = record {
      values = values (rules_of job.program) job.vertices edges round;
      is_result = record { round = round; is_last = last; are_values = refl };
      is_text = refl;
    };
  }

  -- **And a front of them is a front of it.**
  pub front_answer : (old new : Option (List ℕ)) → IsLastRound (rules_of job.program) job.vertices edges job.limit round
      → PrintsFront state (split_for job) devices (slot_of round) (shows_side job.program) old new → FrontPrinted job edges old new
  front_answer old new last prints =
      let text : List ℕ = text_of_values (shows_side job.program) (values (rules_of job.program) job.vertices edges round) in
      let front = parts_of_front text old new (prints_front_of_these state (split_for job) devices (slot_of round) (shows_side job.program) (values (rules_of job.program) job.vertices edges round) held old new prints) in
      record {
        printed = front.0;
        rest = front.1;
        prints = front.2;
        is_answer = record {
          values = values (rules_of job.program) job.vertices edges round;
          is_result = record { round = round; is_last = last; are_values = refl };
          is_text = front.3;
        };
      }
