use Rattle.std.specs.Prelude.{◌≡◌, ℕ, ◌<◌, ◌⊎◌, List, [], ◌∷◌, ◌++◌, length, ◌≢◌, slice_index}

-- A text is cut into its first line, which has no line feed (10), and what follows the line feed; the last line may lack it.
pub record Cut (text line rest : List ℕ) : Type 0 where
  pub whole : (text ≡ line ++ (10 ∷ rest)) ⊎ ((text ≡ line) × (rest ≡ []))
  pub plain : (k : ℕ) → k < length line → slice_index line k ≢ 10

-- A text is cut into all its lines; an empty text has none.
pub data Lined : List ℕ → List (List ℕ) → Type 0 where
  none : Lined [] []
  more : {text line rest : List ℕ} {lines : List (List ℕ)} → 0 < length text → Cut text line rest → Lined rest lines → Lined text (line ∷ lines)
