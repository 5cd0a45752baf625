-- The formula of a record that holds a tree.
use Rattle.std.proofs.Common.{◌≡◌, ℕ, ◌-◌, ◌<◌, Bool, List, [], ◌∷◌, length, refl, Ok, Err, Result, sym, ap, ◌∙◌, subst}
use mathlib.Core.Logic.{∥∥₁_elim}
use native.Mathlib.Nat.{ℕ_set}
use Rattle.formulas.specs.declared.node.Node.{Node}
use Rattle.formulas.specs.declared.node.Node.TheVariants.{Constant}
use Rattle.formulas.specs.declared.word.Word.{Word}
use Rattle.formulas.specs.Formulas.{constant, nodes, promises}
use Rattle.formulas.specs.Trees.{formula_at}
use Rattle.formulas.proofs.Listing.{long, listed_formula}
use Rattle.grammar.specs.declared.tree.Tree.{Tree}
use Rattle.grammar.specs.Nodes.{front}
use Rattle.grammar.specs.Parsing.{Grown}
use Rattle.rules.specs.declared.rule.Rule.{Rule}
use Rattle.rules.specs.Formed.{Formed}
use Rattle.rules.specs.declared.rule.Size.{Size}
use Rattle.rules.specs.declared.refusal.Fault.{Fault}
use Rattle.rules.specs.Outcomes.{read, refused, Outcome}
use Rattle.rules.specs.Reading.{rule_nodes, rule_formula, Holding, Reading}
use Rattle.rules.proofs.Once.{outcome_once}
use Rattle.rules.proofs.Exists.{one_lexing}

-- The nodes of a tree that was grown are formed.
abbrev pub grown_formed : (ws : List Word) (t : Tree) → Grown ws t → Formed (front t) (length (front t)) t.operators
grown_formed ws t g = record { formula = g.formula; listed = g.listed; size = ap length g.listed ∙ long 0 0 g.formula; numbered = g.operators }

formed_formula : (ns : List Node) (m : ℕ) (f : Formed ns (length ns) m) → formula_at ns (length ns - 1) ≡ f.formula
formed_formula ns m f = listed_formula ns f.formula f.listed (length ns) f.size

-- A constant stands alone.
pub alone : (ns : List Node) (b : Bool) → ns ≡ Constant b ∷ [] → ∥ Formed ns (length ns) 0 ∥₁
alone ns b e = ∣ record { formula = constant b; listed = e; size = ap length e; numbered = refl } ∣₁

-- The promises of a record are those of its formula.
pub rule_promises : {K : Type 0} (r : Rule K) → r.promises ≡ promises (rule_formula r)
rule_promises r = ∥∥₁_elim r.formed (ℕ_set _ _) (λ f. f.numbered ∙ ap promises (sym (formed_formula _ _ f)))

module _ (K : Type 0) (count : ℕ) (names : ℕ → List ℕ) (apart : (m n : ℕ) → m < count → n < count → names m ≡ names n → m ≡ n) (text : List ℕ) (old new : Rule K) where
  pub reading_refused : (r : Result Size Fault) (fault : Fault) → r ≡ Err fault → new ≡ old → Outcome count names text (refused fault.refusal fault.place) → Reading count names text old new r
  reading_refused r fault e same o =
      subst (Reading count names text old new) (sym e) (record { right = o; only = λ a q. outcome_once count names apart text q o; words = one_lexing count names text apart; left = same })

  pub reading_done : (t : Tree) (size : Size) (f : Formed (front t) (length (front t)) t.operators) → Holding t new → size.nodes ≡ length (rule_nodes new) → size.promises ≡ new.promises → Outcome count names text (read f.formula) → Reading count names text old new (Ok size)
  reading_done t size f h p q o =
      let is : rule_formula new ≡ f.formula = ap (λ ns. formula_at ns (length ns - 1)) h.same ∙ formed_formula _ _ f in
      let right : Outcome count names text (read (rule_formula new)) = subst (λ g. Outcome count names text (read g)) (sym is) o in
      record {
        right = right;
        only = λ a q. outcome_once count names apart text q right;
        words = one_lexing count names text apart;
        left = (p ∙ ap length h.same ∙ f.size ∙ ap nodes (sym is), q ∙ h.promises ∙ f.numbered ∙ ap promises (sym is));
      }
