-- A line byte by byte, as the reader keeps it. Nothing above the reader cites this.
use Rattle.std.specs.Prelude.{ℕ, ◌+◌, ◌-◌, ◌*◌, ◌^◌, List, ◌==◌, nat_lt, if◌then◌else◌, fold}
use Rattle.std.specs.Char.{is_ascii_digit}
use Rattle.graph_model.specs.declared.edge.Meaning.{Meaning}
use Rattle.graph_model.specs.declared.edge.Meaning.TheVariants.{Nothing, One, Malformed}
use Rattle.graph_model.specs.declared.edge.TheConstants.{MAX_WEIGHT}
use Rattle.graph_model.specs.EdgeText.{is_separator}
use Rattle.edge_reader.specs.declared.line.Line.{Line}
use Rattle.edge_reader.specs.declared.line.Stage.{Stage}
use Rattle.edge_reader.specs.declared.line.Stage.TheVariants.{Blank, Comment, Source, AfterSource, Target, AfterTarget, Weight, AfterWeight, BlankReturn, EdgeReturn, Invalid}

abbrev pub empty_line : Line
empty_line = record { stage = Blank; source = 0; target = 0; number = 0 }

-- a number that is out of every range stays as it is
abbrev pub grown : ℕ → ℕ → ℕ
grown n digit = if nat_lt n (2 ^ 60) then n * 10 + digit else n

abbrev pub invalid : Line → Line
invalid l = record l { stage = Invalid }

abbrev pub with_digit_at : Stage → Line → ℕ → Line
with_digit_at Blank l digit = record l { stage = Source; number = digit }
with_digit_at Comment l digit = l
with_digit_at Source l digit = record l { number = grown l.number digit }
with_digit_at AfterSource l digit = record l { stage = Target; number = digit }
with_digit_at Target l digit = record l { number = grown l.number digit }
with_digit_at AfterTarget l digit = record l { stage = Weight; number = digit }
with_digit_at Weight l digit = record l { number = grown l.number digit }
with_digit_at AfterWeight l digit = invalid l
with_digit_at BlankReturn l digit = invalid l
with_digit_at EdgeReturn l digit = invalid l
with_digit_at Invalid l digit = invalid l

abbrev pub with_digit : Line → ℕ → Line
with_digit l digit = with_digit_at l.stage l digit

-- the range of a field is tested where it ends
abbrev pub with_field_ended_at : Stage → ℕ → Line → Line
with_field_ended_at Blank vertices l = l
with_field_ended_at Comment vertices l = l
with_field_ended_at Source vertices l =
    if nat_lt l.number vertices then record l { stage = AfterSource; source = l.number } else invalid l
with_field_ended_at AfterSource vertices l = l
with_field_ended_at Target vertices l =
    if nat_lt l.number vertices then record l { stage = AfterTarget; target = l.number; number = 1 } else invalid l
with_field_ended_at AfterTarget vertices l = l
with_field_ended_at Weight vertices l = if nat_lt l.number (MAX_WEIGHT + 1) then record l { stage = AfterWeight } else invalid l
with_field_ended_at AfterWeight vertices l = l
with_field_ended_at BlankReturn vertices l = l
with_field_ended_at EdgeReturn vertices l = l
with_field_ended_at Invalid vertices l = l

abbrev pub with_field_ended : ℕ → Line → Line
with_field_ended vertices l = with_field_ended_at l.stage vertices l

-- only the line's end may come behind a carriage return
abbrev pub with_separator_at : Stage → Line → Line
with_separator_at Blank l = l
with_separator_at Comment l = l
with_separator_at Source l = l
with_separator_at AfterSource l = l
with_separator_at Target l = l
with_separator_at AfterTarget l = l
with_separator_at Weight l = l
with_separator_at AfterWeight l = l
with_separator_at BlankReturn l = invalid l
with_separator_at EdgeReturn l = invalid l
with_separator_at Invalid l = l

abbrev pub with_separator : ℕ → Line → Line
with_separator vertices l = let e = with_field_ended vertices l in with_separator_at e.stage e

abbrev pub with_return_at : Stage → Line → Line
with_return_at Blank l = record l { stage = BlankReturn }
with_return_at Comment l = l
with_return_at Source l = invalid l
with_return_at AfterSource l = invalid l
with_return_at Target l = invalid l
with_return_at AfterTarget l = record l { stage = EdgeReturn }
with_return_at Weight l = invalid l
with_return_at AfterWeight l = record l { stage = EdgeReturn }
with_return_at BlankReturn l = invalid l
with_return_at EdgeReturn l = invalid l
with_return_at Invalid l = invalid l

abbrev pub with_return : ℕ → Line → Line
with_return vertices l = let e = with_field_ended vertices l in with_return_at e.stage e

abbrev pub with_other_at : Stage → Line → ℕ → Line
with_other_at Blank l b = if b == 35 then record l { stage = Comment } else invalid l
with_other_at Comment l b = l
with_other_at Source l b = invalid l
with_other_at AfterSource l b = invalid l
with_other_at Target l b = invalid l
with_other_at AfterTarget l b = invalid l
with_other_at Weight l b = invalid l
with_other_at AfterWeight l b = invalid l
with_other_at BlankReturn l b = invalid l
with_other_at EdgeReturn l b = invalid l
with_other_at Invalid l b = invalid l

abbrev pub with_other : Line → ℕ → Line
with_other l b = with_other_at l.stage l b

-- a byte that is no carriage return
abbrev pub line_after_plain : ℕ → Line → ℕ → Line
line_after_plain vertices l b =
    if is_separator b
    then with_separator vertices l
    else (if is_ascii_digit b then with_digit l (b - 48) else with_other l b)

abbrev pub line_after : ℕ → Line → ℕ → Line
line_after vertices l b = if b == 13 then with_return vertices l else line_after_plain vertices l b

abbrev pub line_of : ℕ → List ℕ → Line
line_of vertices bytes = fold (line_after vertices) empty_line bytes

abbrev pub line_end_at : Stage → Line → Meaning
line_end_at Blank l = Nothing
line_end_at Comment l = Nothing
line_end_at Source l = Malformed
line_end_at AfterSource l = Malformed
line_end_at Target l = Malformed
line_end_at AfterTarget l = One (record { src = l.source; dst = l.target; weight = l.number })
line_end_at Weight l = Malformed
line_end_at AfterWeight l = One (record { src = l.source; dst = l.target; weight = l.number })
line_end_at BlankReturn l = Nothing
line_end_at EdgeReturn l = One (record { src = l.source; dst = l.target; weight = l.number })
line_end_at Invalid l = Malformed

-- what the line says if it ends here
abbrev pub line_end : ℕ → Line → Meaning
line_end vertices l = let e = with_field_ended vertices l in line_end_at e.stage e
