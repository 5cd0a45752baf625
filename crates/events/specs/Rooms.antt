use Rattle.std.specs.Prelude.{ℕ, ◌^◌, cond, ◌==◌}

-- How many values the bits 28 to 0 of a kind can have: a strike uses six bits, a feed one, the others all.
abbrev pub room : ℕ → ℕ
room kind = cond (kind == 0) 64 (cond (kind == 1) 2 (2 ^ 29))
