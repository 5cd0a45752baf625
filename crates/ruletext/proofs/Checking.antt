-- What is told of an input is one thing.
use Rattle.std.proofs.Common.{◌≡◌, ℕ, List, [], ◌∷◌, sym, refl, subst, arith}
use Rattle.lines.specs.Lines.{Cut}
use Rattle.lines.proofs.Once.{cut_once}
use Rattle.notation.specs.declared.letter.KindLetter.{KindLetter}
use Rattle.notation.specs.declared.letter.KindLetter.TheVariants.{Sheet, Machine}
use Rattle.notation.specs.declared.letter.KindRefusal.{KindRefusal}
use Rattle.notation.specs.declared.letter.KindRefusal.TheVariants.{NoKind}
use Rattle.notation.specs.Letters.{letter, kind_refusal_number}
use Rattle.output.specs.declared.writer.Writer.{Writer}
use Rattle.output.specs.Writing.{Wrote}
use Rattle.output.proofs.Chains.{after}
use Rattle.ruletext.specs.Reports.{fault_words, line_feed}
use Rattle.ruletext.specs.Checks.{ToldOf, Checked, rules, no_kind, first_line_fault, Put}

same_kind : (k j : KindLetter) → letter k ∷ [] ≡ letter j ∷ [] → k ≡ j
same_kind Sheet Sheet e = refl
same_kind Sheet Machine e = let z : ◌≡◌ {A = ℕ} 115 109 = cc in absurd (omega arith)
same_kind Machine Sheet e = let z : ◌≡◌ {A = ℕ} 109 115 = cc in absurd (omega arith)
same_kind Machine Machine e = refl

pub rules_once : (input rest bytes : List ℕ) (kind : KindLetter) → Cut input (letter kind ∷ []) rest → ((bs : List ℕ) → ToldOf kind rest bs → bs ≡ bytes) → (bs : List ℕ) → Checked input bs → bs ≡ bytes
rules_once input rest bytes kind cut only bs (rules k {rest = r} c t) =
    let (a, b) = cut_once input _ _ _ _ c cut in
    only bs (subst (λ x. ToldOf kind x bs) b (subst (λ j. ToldOf j r bs) (same_kind k kind a) t))
rules_once input rest bytes kind cut only bs (no_kind e c none) = absurd (none kind (cut_once input _ _ _ _ c cut).0)

pub no_kind_once : (input line rest : List ℕ) (e : KindRefusal) → Cut input line rest → ((k : KindLetter) → line ≡ letter k ∷ [] → ⊥) → (bs : List ℕ) → Checked input bs → bs ≡ first_line_fault e
no_kind_once input line rest e cut none bs (rules k c t) = absurd (none k (sym (cut_once input _ _ _ _ c cut).0))
no_kind_once input line rest NoKind cut none bs (no_kind NoKind c other) = refl

pub of_rules : (input line rest : List ℕ) (kind : KindLetter) (w v : Writer) → Cut input line rest → line ≡ letter kind ∷ [] → Put (ToldOf kind rest) w v → Put (Checked input) w v
of_rules input line rest kind w v c e p =
    let cut = subst (λ l. Cut input l rest) e c in
    record { bytes = p.bytes; right = rules kind cut p.right; only = rules_once input rest p.bytes kind cut p.only; wrote = p.wrote }

pub of_no_kind : (input line rest : List ℕ) (e : KindRefusal) (w v u : Writer) → Cut input line rest → ((k : KindLetter) → line ≡ letter k ∷ [] → ⊥) → Wrote w (fault_words (kind_refusal_number e) 1) v → Wrote v line_feed u → Put (Checked input) w u
of_no_kind input line rest e w v u cut none p q =
    record { bytes = first_line_fault e; right = no_kind e cut none; only = no_kind_once input line rest e cut none; wrote = after p q }
