-- A line has one meaning.
use Rattle.std.specs.Prelude.{◌≡◌, ℕ, zero, suc, ◌/◌, ◌%◌, ◌^◌, ◌<◌, ◌≤◌, List, Ok, Err, Result, ◌≢◌, slice_index, refl}
use Rattle.std.proofs.Common.{sym, ap, ◌∙◌, pow-suc, arith}
use Rattle.std.proofs.lemmas.List.{same_from_push}
use Rattle.events.specs.declared.cell.Cell.{Cell}
use Rattle.events.specs.declared.sheet.SheetEvent.{SheetEvent}
use Rattle.events.specs.declared.sheet.SheetEvent.TheVariants.{Struck, LineEnd, SheetEnd}
use Rattle.events.specs.declared.word.MachineEvent.{MachineEvent}
use Rattle.events.specs.Rooms.{room}
use Rattle.events.proofs.Same.{same, same_event}
use Rattle.notation.specs.Digits.{digit, hex_line}
use Rattle.notation.specs.Sheets.{cell_line, sheet_line, SheetRead}
use Rattle.notation.specs.Machines.{word_line, MachineRead}
use Rattle.notation.specs.declared.refusal.LineRefusal.{LineRefusal}
use Rattle.notation.specs.declared.refusal.LineRefusal.TheVariants.{CellOver63, KindUnknown, BitNotZero, NotAnEvent}

pub digit_same : (d e : ℕ) → digit d ≡ digit e → d < 16 → e < 16 → d ≡ e
digit_same d e p u v = grind arith

pub cell_line_same : (m n : ℕ) → m < 100 → n < 100 → cell_line m ≡ cell_line n → m ≡ n
cell_line_same m n u v p =
    let a : m / 10 ≡ n / 10 = digit_same _ _ (cc) (omega arith) (omega arith) in
    let b : m % 10 ≡ n % 10 = digit_same _ _ (cc) (omega arith) (omega arith) in
    omega arith

cell_small : (c : Cell) → c.dots < 100
cell_small c = let u = c.six in omega arith

never : ◌≡◌ {A = ℕ} 0 1 → ⊥
never e = omega arith

-- no cell is written as an end is, and the two ends are not written alike
struck_e : (n : ℕ) → cell_line n ≢ sheet_line LineEnd
struck_e n p = never (cc)

struck_p : (n : ℕ) → cell_line n ≢ sheet_line SheetEnd
struck_p n p = never (cc)

e_p : sheet_line LineEnd ≡ sheet_line SheetEnd → ⊥
e_p p = omega (arith, ap (λ (l : List ℕ). slice_index l 0) p)

sheet_line_same : (e f : SheetEvent) → sheet_line e ≡ sheet_line f → e ≡ f
sheet_line_same (Struck c) (Struck d) p = ap Struck (same c d (cell_line_same c.dots d.dots (cell_small c) (cell_small d) p))
sheet_line_same LineEnd LineEnd p = refl
sheet_line_same SheetEnd SheetEnd p = refl
sheet_line_same (Struck c) LineEnd p = absurd (struck_e c.dots p)
sheet_line_same (Struck c) SheetEnd p = absurd (struck_p c.dots p)
sheet_line_same LineEnd (Struck d) p = absurd (struck_e d.dots (sym p))
sheet_line_same SheetEnd (Struck d) p = absurd (struck_p d.dots (sym p))
sheet_line_same LineEnd SheetEnd p = absurd (e_p p)
sheet_line_same SheetEnd LineEnd p = absurd (e_p (sym p))

sheet_or_none : (l : List ℕ) (x : SheetEvent) (e : LineRefusal) → SheetRead l (Ok x) → SheetRead l (Err e) → ⊥
sheet_or_none l (Struck c) CellOver63 p q =
    let u = c.six in
    let e = cell_line_same c.dots q.0 (cell_small c) q.2 (sym p ∙ q.3) in
    omega (arith, q.1)
sheet_or_none l LineEnd CellOver63 p q = struck_e q.0 (sym q.3 ∙ p)
sheet_or_none l SheetEnd CellOver63 p q = struck_p q.0 (sym q.3 ∙ p)
sheet_or_none l x KindUnknown p q = q
sheet_or_none l x BitNotZero p q = q
sheet_or_none l (Struck c) NotAnEvent p q = q.0 c.dots (cell_small c) p
sheet_or_none l LineEnd NotAnEvent p q = q.1 p
sheet_or_none l SheetEnd NotAnEvent p q = q.2 p

pub sheet_once : (l : List ℕ) (r s : Result SheetEvent LineRefusal) → SheetRead l r → SheetRead l s → r ≡ s
sheet_once l (Ok x) (Ok y) p q = ap Ok (sheet_line_same x y (sym p ∙ q))
sheet_once l (Ok x) (Err e) p q = absurd (sheet_or_none l x e p q)
sheet_once l (Err e) (Ok x) p q = absurd (sheet_or_none l x e q p)
sheet_once l (Err CellOver63) (Err CellOver63) p q = refl
sheet_once l (Err CellOver63) (Err NotAnEvent) p q = absurd (q.0 p.0 p.2 p.3)
sheet_once l (Err NotAnEvent) (Err CellOver63) p q = absurd (p.0 q.0 q.2 q.3)
sheet_once l (Err NotAnEvent) (Err NotAnEvent) p q = refl
sheet_once l (Err KindUnknown) (Err e) p q = absurd p
sheet_once l (Err BitNotZero) (Err e) p q = absurd p
sheet_once l (Err e) (Err KindUnknown) p q = absurd q
sheet_once l (Err e) (Err BitNotZero) p q = absurd q

pub hex_line_same : (k m n : ℕ) → m < 16 ^ k → n < 16 ^ k → hex_line k m ≡ hex_line k n → m ≡ n
hex_line_same zero m n u v p = omega arith
hex_line_same (suc k) m n u v p =
    let s = same_from_push (hex_line k (m / 16)) (hex_line k (n / 16)) _ _ p in
    let a = hex_line_same k (m / 16) (n / 16) (omega (arith, pow-suc 16 k)) (omega (arith, pow-suc 16 k)) s.0 in
    let b = digit_same (m % 16) (n % 16) s.1 (omega arith) (omega arith) in
    omega arith

word_same : (l : List ℕ) (v w : ℕ) → v < 2 ^ 32 → w < 2 ^ 32 → l ≡ word_line v → l ≡ word_line w → v ≡ w
word_same l v w a b p q = hex_line_same 8 v w a b (sym p ∙ q)

word_small : (m : MachineEvent) → m.word < 2 ^ 32
word_small m = let u = m.known in omega arith

machine_or_none : (l : List ℕ) (m : MachineEvent) (e : LineRefusal) → MachineRead l (Ok m) → MachineRead l (Err e) → ⊥
machine_or_none l m CellOver63 p q = q
machine_or_none l m KindUnknown p q =
    let u = m.known in
    let e = word_same l m.word q.0 (word_small m) q.1.0.0 p q.1.0.1 in
    omega (arith, q.1.1)
machine_or_none l m BitNotZero p q =
    let u = m.clean in
    let v : room (m.word / 2 ^ 29) ≤ m.word % 2 ^ 29 = rw (word_same l m.word q.0 (word_small m) q.1.0.0 p q.1.0.1) q.1.1.1 in
    omega arith
machine_or_none l m NotAnEvent p q = q m.word (word_small m) p

one_fault : (l : List ℕ) → MachineRead l (Err KindUnknown) → MachineRead l (Err BitNotZero) → ⊥
one_fault l p q =
    let e = word_same l p.0 q.0 p.1.0.0 q.1.0.0 p.1.0.1 q.1.0.1 in
    omega (arith, p.1.1, q.1.1.0)

pub machine_once : (l : List ℕ) (r s : Result MachineEvent LineRefusal) → MachineRead l r → MachineRead l s → r ≡ s
machine_once l (Ok m) (Ok n) p q = ap Ok (same_event m n (word_same l m.word n.word (word_small m) (word_small n) p q))
machine_once l (Ok m) (Err e) p q = absurd (machine_or_none l m e p q)
machine_once l (Err e) (Ok m) p q = absurd (machine_or_none l m e q p)
machine_once l (Err KindUnknown) (Err KindUnknown) p q = refl
machine_once l (Err BitNotZero) (Err BitNotZero) p q = refl
machine_once l (Err NotAnEvent) (Err NotAnEvent) p q = refl
machine_once l (Err KindUnknown) (Err BitNotZero) p q = absurd (one_fault l p q)
machine_once l (Err BitNotZero) (Err KindUnknown) p q = absurd (one_fault l q p)
machine_once l (Err KindUnknown) (Err NotAnEvent) p q = absurd (q p.0 p.1.0.0 p.1.0.1)
machine_once l (Err BitNotZero) (Err NotAnEvent) p q = absurd (q p.0 p.1.0.0 p.1.0.1)
machine_once l (Err NotAnEvent) (Err KindUnknown) p q = absurd (p q.0 q.1.0.0 q.1.0.1)
machine_once l (Err NotAnEvent) (Err BitNotZero) p q = absurd (p q.0 q.1.0.0 q.1.0.1)
machine_once l (Err CellOver63) (Err e) p q = absurd p
machine_once l (Err e) (Err CellOver63) p q = absurd q
