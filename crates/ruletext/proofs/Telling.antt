-- Lines told one after another.
use Rattle.std.proofs.Common.{◌≡◌, ℕ, ◌<◌, List, [], ◌∷◌, ◌++◌, map, Bor, sym, refl, ap, ◌∙◌, subst, append_assoc, append-nil}
use Rattle.std.proofs.lemmas.List.{map-append}
use Rattle.lines.specs.Lines.{Lined}
use Rattle.lines.proofs.Once.{lined_once}
use Rattle.output.specs.declared.writer.Writer.{Writer}
use Rattle.output.specs.Writing.{Wrote}
use Rattle.output.proofs.Chains.{nothing, after}
use Rattle.rules.proofs.Once.{outcome_once}
use Rattle.ruletext.specs.Reports.{told, Reported}
use Rattle.ruletext.specs.Checks.{Tells, none, more, Told, Put}

-- These lines were told.
pub record Sofar (count : ℕ) (names : ℕ → List ℕ) (lines : List (List ℕ)) (w v : Writer) : Type 0 where
  pub bytes : List ℕ
  pub tells : Tells count names lines bytes
  pub wrote : Wrote w bytes v

module _ (count : ℕ) (names : ℕ → List ℕ) where
  joined : {ls ms : List (List ℕ)} {cs bs : List ℕ} → Tells count names ls cs → Tells count names ms bs → Tells count names (ls ++ ms) (cs ++ bs)
  joined none t = t
  joined {ms = ms} {bs = bs} (more {line = l} {a = a} {lines = ls} {bs = cs} o s) t =
      subst (λ x. Tells count names (l ∷ (ls ++ ms)) x) (sym (append_assoc (told count names l a) cs bs)) (more o (joined s t))

  pub at_first : (w : Writer) → Sofar count names [] w w
  at_first w = record { bytes = []; tells = none; wrote = nothing w }

  pub one_more : (xs : List (Bor (List ℕ))) (x : Bor (List ℕ)) (w v u : Writer) → Sofar count names (map (λ l. l.now) xs) w v → Reported count names x.now v u → Sofar count names (map (λ l. l.now) (xs ++ x ∷ [])) w u
  one_more xs x w v u s r =
      record {
        bytes = s.bytes ++ (told count names x.now r.answer ++ []);
        tells = rw map-append (joined s.tells (more r.outcome none));
        wrote = after s.wrote (subst (λ bs. Wrote v bs u) (sym (append-nil (told count names x.now r.answer))) r.wrote);
      }

  module _ (apart : (m n : ℕ) → m < count → n < count → names m ≡ names n → m ≡ n) where
    tells_once : {ls : List (List ℕ)} {cs bs : List ℕ} → Tells count names ls cs → Tells count names ls bs → cs ≡ bs
    tells_once none none = refl
    tells_once (more {line = l} {a = a} {bs = cs} o t) (more {a = b} {bs = bs} p u) =
        let same : a ≡ b = outcome_once count names apart l o p in
        let rest : cs ≡ bs = tells_once t u in
        ap (λ x. told count names l x ++ cs) same ∙ ap (λ x. told count names l b ++ x) rest

    told_once : (text cs bs : List ℕ) → Told count names text cs → Told count names text bs → cs ≡ bs
    told_once text cs bs t u = tells_once (subst (λ ls. Tells count names ls cs) (lined_once t.lined u.lined) t.tells) u.tells

    pub at_last : (text : List ℕ) (ls : List (List ℕ)) (w v : Writer) → Lined text ls → Sofar count names ls w v → Put (Told count names text) w v
    at_last text ls w v lined s =
        let done : Told count names text s.bytes = record { lines = ls; lined = lined; tells = s.tells } in
        record { bytes = s.bytes; right = done; only = λ bs t. told_once text bs s.bytes t done; wrote = s.wrote }
