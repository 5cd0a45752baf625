use Rattle.std.specs.Prelude.{◌≡◌, ℕ, ◌+◌, ◌≤◌, List, ◌++◌, length, Ok, Err, IsOk, IsErr, vec_items, vec_capacity, Result, Vec}
use Rattle.std.specs.declared.alloc.AllocError.{AllocError}
use Rattle.std.specs.declared.alloc.Global.{Global}
use Rattle.output.specs.declared.writer.Writer.{Writer}

-- What was put so far.
abbrev pub put_so_far : Writer → List ℕ
put_so_far w = vec_items w.bytes

-- The writer has these bytes, with their room, and memory did not run short.
pub record Sound (bytes : Vec ℕ Global) (w : Writer) : Type 0 where
  pub same : w.bytes ≡ bytes
  pub sound : IsOk w.memory

-- Where memory did not run short up to v, it had not up to w, and just bs was put between; and with room for bs at w it does not.
pub record Wrote (w : Writer) (bs : List ℕ) (v : Writer) : Type 0 where
  pub whole : IsOk v.memory → IsOk w.memory × (put_so_far v ≡ put_so_far w ++ bs)
  pub fits : IsOk w.memory → length (put_so_far w) + length bs ≤ vec_capacity w.bytes → IsOk v.memory
  pub room : vec_capacity w.bytes ≤ vec_capacity v.bytes

abbrev pub Finished : Writer → Result (Vec ℕ Global) AllocError → Type 0
Finished w (Ok v) = IsOk w.memory × (vec_items v ≡ put_so_far w)
Finished w (Err e) = IsErr w.memory
