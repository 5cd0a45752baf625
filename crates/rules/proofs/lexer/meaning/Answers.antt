use Rattle.std.proofs.Common.{◌≡◌, ℕ, ◌<◌, ◌≤◌, ◌≢◌, MatchOption, Option, Some, None, List, length}
use Rattle.std.specs.Option.{IsSomeAnd, ok_or}
use Rattle.formulas.specs.declared.word.Word.{Word}
use Rattle.formulas.specs.declared.word.Word.TheVariants.{Name}
use Rattle.rules.specs.declared.words.Sign.TheVariants.{Letter}
use Rattle.rules.specs.declared.refusal.RuleRefusal.TheVariants.{UnknownName}
use Rattle.rules.specs.Lexing.{Meant, known, unknown}
use Rattle.rules.proofs.lexer.meaning.Goals as goal

-- A name, or no name, from what was looked up.
looked_up : (count : ℕ) (names : ℕ → List ℕ) (s : List ℕ) (n : Option ℕ) (w : Option Word) → length s ≤ 8 → MatchOption n ((m : ℕ) → m < count → names m ≢ s) (λ m. (m < count) × (names m ≡ s)) → MatchOption n (w ≡ None) (λ m. IsSomeAnd w (λ v. v ≡ Name m)) → Meant count names Letter s (ok_or w UnknownName)
looked_up count names s None w short none is = rw is (unknown short none)
looked_up count names s (Some m) None short found is = absurd is
looked_up count names s (Some m) (Some v) short found is = rw is (known short found.0 found.1)

pub returns-in-Letter-2 : goal.returns-in-Letter-2
returns-in-Letter-2 g c =
    rw (c.in-Letter-2.is, c.ok_or.ensures.value) (looked_up _ _ _ _ _ c.if-piece-gt8.false c.name_of.ensures c.map.ensures.cases)
