use Rattle.edge_reader.proofs.reader.EdgeReader.feed.Goals as goal

pub returns-clause-read : goal.returns-clause-read
returns-clause-read c = λ vertices both limit text has.
    let feeds = c.take-outcome.ensures vertices both limit text has in
    rw c.err-self.ensures.value feeds
