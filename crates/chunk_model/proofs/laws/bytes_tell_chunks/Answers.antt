use Rattle.chunk_model.specs.ChunkBytes.{chunk_bytes}
use Rattle.chunk_model.proofs.LayoutLaws.{edge_layout_is, update_layout_is}
use Rattle.chunk_model.proofs.OnDevice.{appended_stands, length-chunk_bytes, one_chunk}
use Rattle.chunk_model.proofs.ManyChunks.{same_chunks}
use Rattle.chunk_model.proofs.laws.bytes_tell_chunks.Goals as goal

pub returns-clause-edges : goal.returns-clause-edges
returns-clause-edges g c = edge_layout_is

pub returns-clause-updates : goal.returns-clause-updates
returns-clause-updates g c = update_layout_is

pub returns-clause-written : goal.returns-clause-written
returns-clause-written g c layout laws vertices span most partition records are bytes rest =
    record { stands = appended_stands bytes (chunk_bytes layout partition records) rest; are = are }

pub returns-clause-width : goal.returns-clause-width
returns-clause-width g c = length-chunk_bytes

pub returns-clause-one : goal.returns-clause-one
returns-clause-one g c layout laws vertices span most p q at below below' bytes records others is is' =
    one_chunk layout laws p q at bytes records others below below' is.are.counted is'.are.counted is.are.held is'.are.held is.stands is'.stands

pub returns-clause-all : goal.returns-clause-all
returns-clause-all g c = same_chunks
