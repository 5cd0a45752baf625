use Rattle.std.specs.Prelude.{◌≡◌, ℕ, ◌+◌, ◌<◌, Bool, true, false, cond, ◌&&◌, List, length, take, drop, Some, None, Option, ◌==◌, nat_le, slice_index}
use Rattle.std.specs.List.{prefix_len}
use Rattle.formulas.specs.declared.unary.Unary.TheVariants.{Not, Next, WeakNext, Finally, Globally}
use Rattle.formulas.specs.declared.binary.Binary.TheVariants.{And, Or, Implies, Iff, Until}
use Rattle.formulas.specs.declared.word.Word.TheVariants.{Constant, Open, Close, Prefix, Infix}
use Rattle.rules.specs.declared.words.Sign.{Sign}
use Rattle.rules.specs.declared.words.Sign.TheVariants.{Letter, Mark, Foreign}
use Rattle.rules.specs.declared.words.Piece.{Piece}

-- The letters are a (97) to z (122).
abbrev pub letter : ℕ → Bool
letter b = nat_le 97 b && nat_le b 122

-- What begins with a byte: 1 0 ( ) ! X N F G & | > = U are words of one byte.
abbrev pub sign : ℕ → Sign
sign b =
    cond (letter b) Letter
    (cond (b == 49) (Mark (Constant true))
    (cond (b == 48) (Mark (Constant false))
    (cond (b == 40) (Mark Open)
    (cond (b == 41) (Mark Close)
    (cond (b == 33) (Mark (Prefix Not))
    (cond (b == 88) (Mark (Prefix Next))
    (cond (b == 78) (Mark (Prefix WeakNext))
    (cond (b == 70) (Mark (Prefix Finally))
    (cond (b == 71) (Mark (Prefix Globally))
    (cond (b == 38) (Mark (Infix And))
    (cond (b == 124) (Mark (Infix Or))
    (cond (b == 62) (Mark (Infix Implies))
    (cond (b == 61) (Mark (Infix Iff))
    (cond (b == 85) (Mark (Infix Until)) Foreign))))))))))))))

-- How many spaces (32) stand at the front, and how many letters.
abbrev pub spaces : List ℕ → ℕ
spaces = prefix_len (λ b. b == 32)

abbrev pub letters : List ℕ → ℕ
letters = prefix_len letter

-- How long the word at the front is: the longest run of letters, or one byte.
abbrev pub size : List ℕ → ℕ
size s = cond (letter (slice_index s 0)) (letters s) 1

-- From the place `at` of the text on: where the next word begins, past the spaces, what it begins with, where it ends, and its bytes.
abbrev pub begins : List ℕ → ℕ → ℕ
begins text at = at + spaces (drop at text)

unfoldable pub sign_of : List ℕ → ℕ → Sign
sign_of text at = sign (slice_index text (begins text at))

unfoldable pub ends : List ℕ → ℕ → ℕ
ends text at = begins text at + size (drop (begins text at) text)

unfoldable pub piece : List ℕ → ℕ → List ℕ
piece text at = take (size (drop (begins text at) text)) (drop (begins text at) text)

-- What the reader hands out at the place `at`, and the place where it goes on.
abbrev pub Taken : List ℕ → ℕ → Option Piece → ℕ → Type 0
Taken text at None to = begins text at ≡ length text
Taken text at (Some p) to =
    (begins text at < length text) × (p.place ≡ begins text at) × (p.sign ≡ sign_of text at) × (p.part.now ≡ piece text at) × (to ≡ ends text at)
