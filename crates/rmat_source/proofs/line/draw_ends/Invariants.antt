use Rattle.std.proofs.Common.{◌≡◌, ◌+◌, ◌^◌, ◌<◌}
use Rattle.rmat_source.specs.Words.{word_of}
use Rattle.rmat_source.specs.Rmat.{source_bit, destination_bit, end_of}
use Rattle.rmat_source.proofs.line.draw_ends.Given as goal

abbrev pub invariant-bits : goal.invariant-bits
invariant-bits l = record {
  source : l.src ≡ end_of (word_of l.initial.words.key) source_bit l.initial.words.place l.counter;
  destination : l.dst ≡ end_of (word_of l.initial.words.key) destination_bit l.initial.words.place l.counter;
  key : l.words.key ≡ l.initial.words.key;
  place : l.words.place ≡ l.initial.words.place + l.counter;
  source_fits : l.src < 2 ^ l.counter;
  destination_fits : l.dst < 2 ^ l.counter;
}
