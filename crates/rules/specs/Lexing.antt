use Rattle.std.specs.Prelude.{◌≡◌, ℕ, ◌<◌, ◌≤◌, List, [], ◌∷◌, length, Ok, Err, Result, ◌≢◌}
use Rattle.formulas.specs.declared.word.Word.{Word}
use Rattle.formulas.specs.declared.word.Word.TheVariants.{Name}
use Rattle.rules.specs.declared.words.Sign.{Sign}
use Rattle.rules.specs.declared.words.Sign.TheVariants.{Letter, Mark, Foreign}
use Rattle.rules.specs.declared.refusal.RuleRefusal.{RuleRefusal}
use Rattle.rules.specs.declared.refusal.RuleRefusal.TheVariants.{ForeignByte, LongName, UnknownName}
use Rattle.rules.specs.Texts.{begins, sign_of, ends, piece}

-- What the bytes of one word mean, by what they begin with, where `names n` are the letters of the name n below the count.
pub data Meant (count : ℕ) (names : ℕ → List ℕ) : Sign → List ℕ → Result Word RuleRefusal → Type 0 where
  mark : {w : Word} {s : List ℕ} → Meant count names (Mark w) s (Ok w)
  foreign : {s : List ℕ} → Meant count names Foreign s (Err ForeignByte)
  long : {s : List ℕ} → 8 < length s → Meant count names Letter s (Err LongName)
  known : {n : ℕ} {s : List ℕ} → length s ≤ 8 → n < count → names n ≡ s → Meant count names Letter s (Ok (Name n))
  unknown : {s : List ℕ} → length s ≤ 8 → ((n : ℕ) → n < count → names n ≢ s) → Meant count names Letter s (Err UnknownName)

-- What the bytes of a text come to: its words with their places, or the fault of the leftmost that is no word.
pub data Lexing : Type 0 where
  lexed : List Word → List ℕ → Lexing
  spoilt : RuleRefusal → ℕ → Lexing

-- What the text comes to from a place on.
pub data Lexes (count : ℕ) (names : ℕ → List ℕ) (text : List ℕ) : ℕ → Lexing → Type 0 where
  no_more : {at : ℕ} → begins text at ≡ length text → Lexes count names text at (lexed [] [])
  a_word : {at : ℕ} {w : Word} {ws : List Word} {ps : List ℕ} → begins text at < length text → Meant count names (sign_of text at) (piece text at) (Ok w) → Lexes count names text (ends text at) (lexed ws ps) → Lexes count names text at (lexed (w ∷ ws) (begins text at ∷ ps))
  spoilt_here : {at : ℕ} {r : RuleRefusal} → begins text at < length text → Meant count names (sign_of text at) (piece text at) (Err r) → Lexes count names text at (spoilt r (begins text at))
  spoilt_later : {at p : ℕ} {w : Word} {r : RuleRefusal} → begins text at < length text → Meant count names (sign_of text at) (piece text at) (Ok w) → Lexes count names text (ends text at) (spoilt r p) → Lexes count names text at (spoilt r p)

-- A text comes to one thing and no other.
pub record OneLexing (count : ℕ) (names : ℕ → List ℕ) (text : List ℕ) : Type 0 where
  pub lexing : Lexing
  pub lexes : Lexes count names text 0 lexing
  pub only : (l : Lexing) → Lexes count names text 0 l → l ≡ lexing
