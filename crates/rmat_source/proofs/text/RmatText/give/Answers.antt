use Rattle.std.proofs.Common.{rules, ◌≡◌, ◌++◌, ◌∙◌, ℕ, List}
use Rattle.rmat_source.specs.Words.{word_of}
use Rattle.rmat_source.specs.Rmat.{lines_from}
use Rattle.rmat_source.proofs.Giving.{given_front, begun}
use Rattle.rmat_source.proofs.text.RmatText.give.Goals as goal
use Rattle.rmat_source.proofs.text.RmatText.give.Goals.{then-is_empty+then-self-gt0, else-is_empty}

pub returns-clause-front : goal.returns-clause-front
returns-clause-front c =
    let before = c.self.inside in
    let text = c.if-is_empty.self-inside in
    let more : List ℕ = lines_from (word_of text.words.key) text.scale text.words.place text.lines_left in
    let whole : text.line ++ more ≡ c.args.self.now =
    elim c.if-is_empty.branch [
      | then-is_empty+then-self-gt0 w ↦
          rw (w.self-inside-is, w.draw.ensures.words) (begun (word_of before.words.key) before.scale before.words.place before.lines_left before.line w.draw.new.self c.args.self.now (search rules) w.if-self-gt0.true (cc) w.draw.ensures.line)
      | else-is_empty w ↦ rw w.self-inside-is cc
    ] in
    given_front c.give.result text.line c.give.new.self c.args.into.now c.give.new.into more c.give.ensures.count c.give.ensures.front c.give.ensures.rest ∙ whole
