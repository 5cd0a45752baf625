use Rattle.std.specs.Prelude.{◌≡◌, ℕ, List, [], ◌∷◌, ◌++◌, Err}
use Rattle.events.specs.Sheets.{sheet_text, sheet_name_at}
use Rattle.events.specs.Machines.{machine_text, machine_name_at}
use Rattle.lines.specs.Lines.{Cut, Lined}
use Rattle.notation.specs.declared.letter.KindLetter.{KindLetter}
use Rattle.notation.specs.declared.letter.KindLetter.TheVariants.{Sheet, Machine}
use Rattle.notation.specs.declared.letter.KindRefusal.{KindRefusal}
use Rattle.notation.specs.Letters.{letter, kind_refusal_number, LetterRead}
use Rattle.output.specs.declared.writer.Writer.{Writer}
use Rattle.output.specs.Writing.{Wrote}
use Rattle.rules.specs.Outcomes.{Answer, Outcome}
use Rattle.ruletext.specs.Reports.{told, fault_words, line_feed}

-- What is told of lines, each a rule text of one kind, one after another.
pub data Tells (count : ℕ) (names : ℕ → List ℕ) : List (List ℕ) → List ℕ → Type 0 where
  none : Tells count names [] []
  more : {line : List ℕ} {a : Answer} {lines : List (List ℕ)} {bs : List ℕ} → Outcome count names line a → Tells count names lines bs → Tells count names (line ∷ lines) (told count names line a ++ bs)

-- What is told of all lines of a text.
pub record Told (count : ℕ) (names : ℕ → List ℕ) (text bs : List ℕ) : Type 0 where
  pub lines : List (List ℕ)
  pub lined : Lined text lines
  pub tells : Tells count names lines bs

-- The same, for the kind that a letter names.
abbrev pub ToldOf : KindLetter → List ℕ → List ℕ → Type 0
ToldOf Sheet text bs = Told 7 (λ n. sheet_text (sheet_name_at n)) text bs
ToldOf Machine text bs = Told 5 (λ n. machine_text (machine_name_at n)) text bs

-- A first line that names no kind: `fault 60 at 1`.
abbrev pub first_line_fault : KindRefusal → List ℕ
first_line_fault e = fault_words (kind_refusal_number e) 1 ++ line_feed

-- What is told of an input: its first line is the letter of a kind, and every further line is a rule; or its first line is at fault.
pub data Checked (input : List ℕ) : List ℕ → Type 0 where
  rules : (kind : KindLetter) {rest bs : List ℕ} → Cut input (letter kind ∷ []) rest → ToldOf kind rest bs → Checked input bs
  no_kind : {line rest : List ℕ} (e : KindRefusal) → Cut input line rest → LetterRead line (Err e) → Checked input (first_line_fault e)

-- The bytes of which P holds were put; there are no others.
pub record Put (P : List ℕ → Type 0) (w v : Writer) : Type 0 where
  pub bytes : List ℕ
  pub right : P bytes
  pub only : (bs : List ℕ) → P bs → bs ≡ bytes
  pub wrote : Wrote w bytes v
