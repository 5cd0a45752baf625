-- Roots stay where nodes are added, and each has one formula.
use Rattle.std.proofs.Common.{◌≡◌, ℕ, suc, ◌+◌, ◌<◌, Bool, List, [], ◌∷◌, ◌++◌, length, get_or, take, drop, sym, refl, ap, ◌∙◌, subst, ap₂, add-zero, arith, length-append, take-append-drop, length-take-le, drop-cons}
use mathlib.Core.Logic.{∥∥₁_elim, ∥∥₁_map}
use native.Mathlib.Bridge.{le_prop}
use lib.Seq.{get_or-append_seam}
use Rattle.std.proofs.lemmas.List.{get_or_append_left, get_or_default}
use Rattle.formulas.specs.declared.unary.Unary.{Unary}
use Rattle.formulas.specs.declared.binary.Binary.{Binary}
use Rattle.formulas.specs.declared.node.Node.{Node}
use Rattle.formulas.specs.declared.node.Node.TheVariants as node
use Rattle.formulas.specs.Formulas.{Formula, name, constant, unary, binary}
use Rattle.formulas.specs.Trees.{At, Rooted, Standing, a_name, a_constant, a_prefix, an_infix, made, formulas, formula_at}

at_left : (ns more : List Node) (i : ℕ) (x : Node) → At ns i x → At (ns ++ more) i x
at_left ns more i x h = (simp length-append (omega arith), get_or_append_left ns more x i h.0 ∙ h.1)

pub stays : {ns : List Node} {i b : ℕ} {f : Formula} (more : List Node) → Rooted ns i b f → Rooted (ns ++ more) i b f
stays more (a_name h) = a_name (at_left _ more _ _ h)
stays more (a_constant h) = a_constant (at_left _ more _ _ h)
stays more (a_prefix h lt r) = a_prefix (at_left _ more _ _ h) lt (stays more r)
stays more (an_infix h lt lt' r s) = an_infix (at_left _ more _ _ h) lt lt' (stays more r) (stays more s)

long : (xs : List Node) (done : List Formula) → length (formulas xs done) ≡ length done + length xs
long [] done = sym (add-zero (length done))
long (y ∷ ys) done = long ys _ ∙ simp length-append (omega arith)

split : (xs ys : List Node) (done : List Formula) → formulas (xs ++ ys) done ≡ formulas ys (formulas xs done)
split [] ys done = refl
split (x ∷ xs) ys done = split xs ys _

kept : (xs : List Node) (done : List Formula) (i : ℕ) → i < length done → get_or (formulas xs done) i (name 0) ≡ get_or done i (name 0)
kept [] done i h = refl
kept (x ∷ xs) done i h = kept xs _ i (simp length-append (omega arith)) ∙ get_or_append_left done _ (name 0) i h

module _ (ns : List Node) (i : ℕ) (x : Node) (h : At ns i x) where
  front : List Formula
  front = formulas (take i ns) []

  front_long : length front ≡ i
  unfolding front
  front_long = long (take i ns) [] ∙ ap (λ n. 0 + n) (length-take-le i ns (omega arith)) ∙ omega arith

  apart : ns ≡ take i ns ++ x ∷ drop (suc i) ns
  apart = sym (take-append-drop i ns) ∙ ap (λ r. take i ns ++ r) (drop-cons ns i x h.0 ∙ ap (λ y. y ∷ drop (suc i) ns) h.1)

  all : formulas ns [] ≡ formulas (drop (suc i) ns) (front ++ made x front ∷ [])
  unfolding front
  all = ap (λ l. formulas l []) apart ∙ split (take i ns) (x ∷ drop (suc i) ns) []

  here : formula_at ns i ≡ made x front
  unfolding formula_at
  here =
      ap (λ l. get_or l i (name 0)) all
      ∙ kept (drop (suc i) ns) (front ++ made x front ∷ []) i (simp length-append (omega (arith, front_long)))
      ∙ ap (λ k. get_or (front ++ made x front ∷ []) k (name 0)) (sym front_long)
      ∙ get_or-append_seam front (made x front) [] (name 0)

  below : (j : ℕ) → j < i → get_or front j (name 0) ≡ formula_at ns j
  unfolding formula_at
  below j lt =
      sym (get_or_append_left front (made x front ∷ []) (name 0) j (omega (arith, front_long)))
      ∙ sym (kept (drop (suc i) ns) (front ++ made x front ∷ []) j (simp length-append (omega (arith, front_long))))
      ∙ sym (ap (λ l. get_or l j (name 0)) all)

pub formula_is : {ns : List Node} {i b : ℕ} {f : Formula} → Rooted ns i b f → formula_at ns i ≡ f
formula_is (a_name h) = here _ _ _ h
formula_is (a_constant h) = here _ _ _ h
formula_is (a_prefix {o = o} h lt r) = here _ _ _ h ∙ ap (unary o) (below _ _ _ h _ lt ∙ formula_is r)
formula_is (an_infix {o = o} h lt lt' r s) =
    here _ _ _ h ∙ ap₂ (binary o) (below _ _ _ h _ lt ∙ formula_is r) (below _ _ _ h _ lt' ∙ formula_is s)

abbrev SomeRoot : List Node → ℕ → Type 0
SomeRoot ns i = (b : ℕ) × (f : Formula) × Rooted ns i b f

module _ (ns : List Node) (i : ℕ) where
  -- What stands at an index is one node,
  same_node : (x y : Node) → At ns i x → At ns i y → x ≡ y
  same_node x y h k = sym h.1 ∙ get_or_default ns i x y h.0 ∙ k.1

  -- told by what is read there,
  pub read_node : (d x : Node) → i < length ns → get_or ns i d ≡ x → At ns i x
  read_node d x h e = (h, get_or_default ns i x d h ∙ e)

  -- and its formula is made of those of its operands.
  pub name_formula : (n : ℕ) → At ns i (node.Name n) → formula_at ns i ≡ name n
  name_formula n h = here _ _ _ h

  pub constant_formula : (c : Bool) → At ns i (node.Constant c) → formula_at ns i ≡ constant c
  constant_formula c h = here _ _ _ h

  pub prefix_formula : (o : Unary) (b j : ℕ) → At ns i (node.Prefix o b j) → j < i → formula_at ns i ≡ unary o (formula_at ns j)
  prefix_formula o b j h lt = here _ _ _ h ∙ ap (unary o) (below _ _ _ h _ lt)

  pub infix_formula : (o : Binary) (b j k : ℕ) → At ns i (node.Infix o b j k) → j < i → k < i → formula_at ns i ≡ binary o (formula_at ns j) (formula_at ns k)
  infix_formula o b j k h lt lt' = here _ _ _ h ∙ ap₂ (binary o) (below _ _ _ h _ lt) (below _ _ _ h _ lt')

  -- The operands of a node that stands, stand before it.
  prefix_root : (o : Unary) (b j c : ℕ) (f : Formula) → At ns i (node.Prefix o b j) → Rooted ns i c f → (j < i) × SomeRoot ns j
  prefix_root o b j c f h (a_name k) = let e = same_node _ _ h k in absurd (cc)
  prefix_root o b j c f h (a_constant k) = let e = same_node _ _ h k in absurd (cc)
  prefix_root o b j c f h (a_prefix {j = j'} k lt r) = let e = same_node _ _ k h in let q : j' ≡ j = cc in subst (λ m. (m < i) × SomeRoot ns m) q (lt, (_, _, r))
  prefix_root o b j c f h (an_infix k lt lt' r s) = let e = same_node _ _ h k in absurd (cc)

  infix_root : (o : Binary) (b j k c : ℕ) (f : Formula) → At ns i (node.Infix o b j k) → Rooted ns i c f → ((j < i) × SomeRoot ns j) × ((k < i) × SomeRoot ns k)
  infix_root o b j k c f h (a_name m) = let e = same_node _ _ h m in absurd (cc)
  infix_root o b j k c f h (a_constant m) = let e = same_node _ _ h m in absurd (cc)
  infix_root o b j k c f h (a_prefix m lt r) = let e = same_node _ _ h m in absurd (cc)
  infix_root o b j k c f h (an_infix {j = j'} {k = k'} m lt lt' r s) =
      let e = same_node _ _ m h in
      let p : j' ≡ j = cc in
      let q : k' ≡ k = cc in
      (subst (λ n. (n < i) × SomeRoot ns n) p (lt, (_, _, r)), subst (λ n. (n < i) × SomeRoot ns n) q (lt', (_, _, s)))

  root_inside : (b : ℕ) (f : Formula) → Rooted ns i b f → i < length ns
  root_inside b f (a_name h) = h.0
  root_inside b f (a_constant h) = h.0
  root_inside b f (a_prefix h lt r) = h.0
  root_inside b f (an_infix h lt lt' r s) = h.0

  pub stands_inside : Standing ns i → i < length ns
  stands_inside s = ∥∥₁_elim s le_prop (λ r. root_inside _ _ r.2)

  module _ (o : Unary) (b j : ℕ) (h : At ns i (node.Prefix o b j)) (s : Standing ns i) where
    pub prefix_below : j < i
    prefix_below = ∥∥₁_elim s le_prop (λ r. (prefix_root o b j _ _ h r.2).0)

    pub prefix_stands : Standing ns j
    prefix_stands = ∥∥₁_map s (λ r. (prefix_root o b j _ _ h r.2).1)

  module _ (o : Binary) (b j k : ℕ) (h : At ns i (node.Infix o b j k)) (s : Standing ns i) where
    pub left_below : j < i
    left_below = ∥∥₁_elim s le_prop (λ r. (infix_root o b j k _ _ h r.2).0.0)

    pub left_stands : Standing ns j
    left_stands = ∥∥₁_map s (λ r. (infix_root o b j k _ _ h r.2).0.1)

    pub right_below : k < i
    right_below = ∥∥₁_elim s le_prop (λ r. (infix_root o b j k _ _ h r.2).1.0)

    pub right_stands : Standing ns k
    right_stands = ∥∥₁_map s (λ r. (infix_root o b j k _ _ h r.2).1.1)
