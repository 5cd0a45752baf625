use Rattle.std.proofs.Common.{◌≡◌, ℕ, ◌+◌, ◌-◌, max, eqb, length, get_or, take, drop, refl, ap, ◌∙◌, arith, rules, length-drop, length-take-le, add-zero}
use Rattle.std.proofs.lemmas.List.{take_all, get_or-drop}
use Rattle.rules.specs.Texts.{letter, letters, spaces, size, begins, sign, sign_of, ends, piece}
use Rattle.rules.proofs.Runs.{max-size}
use Rattle.rules.proofs.words.WordsIterator.next.Goals as goal

pub returns-clause-steps : goal.returns-clause-steps
unfolding sign_of ends piece
returns-clause-steps c =
    let text = c.args.self.now.text.now in
    let at = c.args.self.now.at in
    let place = at + c.run.result in
    let all : (k : ℕ) → take (length text - k) (drop k text) ≡ drop k text = λ k. take_all _ _ (omega (arith, length-drop k text)) in
    let begin : place ≡ begins text at = ap (λ n. at + n) (c.run.ensures.exact (λ b. eqb b 32) (λ b r h. search rules) ∙ ap spaces (all at)) in
    let long : c.max.result ≡ size (drop place text) =
    c.max.ensures ∙ ap (λ n. max n 1) (c.run-2.ensures.exact letter (λ b r h. search rules) ∙ ap letters (all place)) ∙ max-size (drop place text) in
    let first = c.in_ok-first.ensures.item.3 in
    let byte : c.in_ok-first.field-0.now ≡ get_or text place 0 = first.1 0 ∙ ap (λ s. get_or s 0 0) (all place) ∙ get_or-drop place text 0 0 ∙ ap (λ k. get_or text k 0) (add-zero place) in (
      refl,
      (
        omega (arith, begin, first.0),
        begin,
        c.from-sign.ensures ∙ ap sign (byte ∙ ap (λ k. get_or text k 0) begin),
        ap (take c.max.result) (all place) ∙ ap (λ n. take n (drop place text)) long ∙ ap (λ k. take (size (drop k text)) (drop k text)) begin,
        ap (λ n. place + n) (length-take-le _ _ (omega arith) ∙ long) ∙ ap (λ k. k + size (drop k text)) begin,
      ),
    )
