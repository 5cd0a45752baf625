use Rattle.std.specs.Prelude.{◌≡◌, ℕ, List, [], ◌∷◌, Ok, Err, Result, ◌≢◌}
use Rattle.notation.specs.declared.letter.KindLetter.{KindLetter}
use Rattle.notation.specs.declared.letter.KindLetter.TheVariants.{Sheet, Machine}
use Rattle.notation.specs.declared.letter.KindRefusal.{KindRefusal}
use Rattle.notation.specs.declared.letter.KindRefusal.TheVariants.{NoKind}

-- The letters of the kinds: s and m.
abbrev pub letter : KindLetter → ℕ
letter Sheet = 115
letter Machine = 109

-- The number of a refusal.
abbrev pub kind_refusal_number : KindRefusal → ℕ
kind_refusal_number NoKind = 60

-- What a byte tells: the kind whose letter it is, or a refusal where it is no kind's.
abbrev pub LetterTold : ℕ → Result KindLetter KindRefusal → Type 0
LetterTold byte (Ok k) = byte ≡ letter k
LetterTold byte (Err e) = (k : KindLetter) → byte ≢ letter k

-- What a line is read as: the kind whose letter it is, or a refusal where it is no kind's.
abbrev pub LetterRead : List ℕ → Result KindLetter KindRefusal → Type 0
LetterRead line (Ok k) = line ≡ letter k ∷ []
LetterRead line (Err e) = (k : KindLetter) → line ≢ letter k ∷ []
