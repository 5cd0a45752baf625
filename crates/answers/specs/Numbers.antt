-- The numbers of a bench's refusals.
use Rattle.std.specs.Prelude.{ℕ}
use Rattle.answers.specs.declared.Refusal.{Refusal}
use Rattle.answers.specs.declared.Refusal.TheVariants.{RunsSpent, NoRunOpen, RunFull, SlipNotOfRun}

abbrev pub refusal_number : Refusal → ℕ
refusal_number RunsSpent = 31
refusal_number NoRunOpen = 32
refusal_number RunFull = 33
refusal_number SlipNotOfRun = 34
