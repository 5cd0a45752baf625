-- The last node of a formula's listing is its root.
use Rattle.std.proofs.Common.{◌≡◌, ℕ, ◌+◌, ◌-◌, ◌≤◌, List, [], ◌∷◌, ◌++◌, length, refl, ap, ◌∙◌, subst, append_assoc, arith, lit≤, length-append}
use lib.Seq.{get_or-append_seam}
use Rattle.formulas.specs.declared.word.Word.TheVariants.{Prefix, Infix}
use Rattle.formulas.specs.declared.node.Node.{Node}
use Rattle.formulas.specs.declared.node.Node.TheVariants as node
use Rattle.formulas.specs.Formulas.{Formula, name, constant, unary, binary, temporal, one, nodes, promises}
use Rattle.formulas.specs.Trees.{At, laid, Rooted, a_name, a_constant, a_prefix, an_infix, formula_at}
use Rattle.formulas.proofs.Roots.{stays, formula_is}

pub some : (f : Formula) → 1 ≤ nodes f
some (name n) = lit≤ tt
some (constant c) = lit≤ tt
some (unary o f) = omega (arith, some f)
some (binary o f g) = omega (arith, some f)

pub long : (n b : ℕ) (f : Formula) → length (laid n b f) ≡ nodes f
long n b (name m) = refl
long n b (constant c) = refl
long n b (unary o f) = length-append (laid n _ f) _ ∙ omega (arith, long n (b + one temporal (Prefix o)) f)
long n b (binary o f g) =
    length-append (laid n b f) _ ∙ omega (arith, long n b f, length-append (laid (n + nodes f) (b + promises f + one temporal (Infix o)) g) (node.Infix o (b + promises f) (n + nodes f - 1) (n + nodes f + nodes g - 1) ∷ []), long (n + nodes f) (b + promises f + one temporal (Infix o)) g)

last_at : (xs : List Node) (x : Node) (i : ℕ) → length xs ≡ i → At (xs ++ x ∷ []) i x
last_at xs x i e = subst (λ k. At (xs ++ x ∷ []) k x) e (simp length-append (omega arith), get_or-append_seam xs x [] x)

pub laid_rooted : (xs : List Node) (b : ℕ) (f : Formula) → Rooted (xs ++ laid (length xs) b f) (length xs + nodes f - 1) b f
laid_rooted xs b (name m) = a_name (last_at xs _ _ (omega arith))
laid_rooted xs b (constant c) = a_constant (last_at xs _ _ (omega arith))
laid_rooted xs b (unary o f) =
    let n = length xs in
    let front = laid n (b + one temporal (Prefix o)) f in
    let x = node.Prefix o b (n + nodes f - 1) in
    let size = length-append xs front in
    subst (λ ns. Rooted ns (n + nodes (unary o f) - 1) b (unary o f)) (append_assoc xs front (x ∷ []))
    (a_prefix (last_at (xs ++ front) x _ (omega (arith, size, long n (b + one temporal (Prefix o)) f, some f))) (omega (arith, some f)) (stays (x ∷ []) (laid_rooted xs (b + one temporal (Prefix o)) f)))
laid_rooted xs b (binary o f g) =
    let n = length xs in
    let left = laid n b f in
    let c = b + promises f + one temporal (Infix o) in
    let right = laid (n + nodes f) c g in
    let x = node.Infix o (b + promises f) (n + nodes f - 1) (n + nodes f + nodes g - 1) in
    let here : length (xs ++ left) ≡ n + nodes f = length-append xs left ∙ ap (λ k. n + k) (long n b f) in
    let all = length-append (xs ++ left) right in
    let behind : Rooted ((xs ++ left) ++ right) (n + nodes f + nodes g - 1) c g = subst (λ k. Rooted ((xs ++ left) ++ laid k c g) (k + nodes g - 1) c g) here (laid_rooted (xs ++ left) c g) in
    subst (λ ns. Rooted ns (n + nodes (binary o f g) - 1) b (binary o f g)) (append_assoc (xs ++ left) right (x ∷ []) ∙ append_assoc xs left (right ++ x ∷ []))
    (an_infix
    (last_at ((xs ++ left) ++ right) x _ (omega (arith, all, here, long (n + nodes f) c g, some f, some g)))
    (omega (arith, some f, some g))
    (omega (arith, some f, some g))
    (stays (x ∷ []) (stays right (laid_rooted xs b f)))
    (stays (x ∷ []) behind))

-- The formula of a listing is the formula that is listed.
pub listed_formula : (ns : List Node) (f : Formula) → ns ≡ laid 0 0 f → (n : ℕ) → n ≡ nodes f → formula_at ns (n - 1) ≡ f
listed_formula ns f e n size =
    ap (λ l. formula_at l (n - 1)) e ∙ ap (λ k. formula_at (laid 0 0 f) (k - 1)) size ∙ formula_is (listed f)
  where
    listed : (f : Formula) → Rooted (laid 0 0 f) (nodes f - 1) 0 f
    listed f = let z : 0 + nodes f - 1 ≡ nodes f - 1 = omega arith in subst (λ i. Rooted (laid 0 0 f) i 0 f) z (laid_rooted [] 0 f)
