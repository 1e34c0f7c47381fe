-- What a writer answers, and what it leaves in the buffer.
use Rattle.std.specs.Prelude.{ℕ, List, ◌++◌, drop, Err, Ok, Result}
use Rattle.refusal.specs.Guard.{refusal}
use Rattle.refusal.specs.declared.Refusal.{Refusal}

-- the written length, or a refusal
abbrev pub Writing : Type 0
Writing = Result ℕ Refusal

-- the length, 0 where there is a refusal
abbrev pub written_length : Writing → ℕ
written_length (Ok n) = n
written_length (Err r) = 0

-- a refusal at place 0
abbrev pub refused_by : ℕ → Writing
refused_by number = Err (refusal 0 number)

-- the bytes written stand at the start, and every byte beyond is as it was; refused, all of it is
abbrev pub buffer_after : Writing → List ℕ → List ℕ → List ℕ
buffer_after (Ok n) bytes out = bytes ++ drop n out
buffer_after (Err r) bytes out = out
