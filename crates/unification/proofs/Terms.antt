-- Laws of substitution.
use mathlib.Core.Path.{◌≡◌, refl, ap, ap₂, fun_ext}
use Rattle.unification.specs.Term.{Term, Terms, var, app, nil, cons, apply, apply_all, Variables, AllVariables}

pub apply_ext : {X Y : Type 0} {γ δ : X → Term Y} (t : Term X) → ((x : X) → γ x ≡ δ x) → apply γ t ≡ apply δ t
apply_ext t h = ap (λ g. apply g t) (fun_ext h)

module _ {X Y Z : Type 0} (γ : Y → Term Z) (σ : X → Term Y) where
  mutual
    pub apply_apply : (t : Term X) → apply γ (apply σ t) ≡ apply (λ x. apply γ (σ x)) t
    apply_apply (var x) = refl
    apply_apply (app s ts) = ap (app s) (apply_all_apply_all ts)

    pub apply_all_apply_all : (ts : Terms X) → apply_all γ (apply_all σ ts) ≡ apply_all (λ x. apply γ (σ x)) ts
    apply_all_apply_all nil = refl
    apply_all_apply_all (cons t ts) = ap₂ cons (apply_apply t) (apply_all_apply_all ts)

mutual
  pub apply_var : {X : Type 0} (t : Term X) → apply var t ≡ t
  apply_var (var x) = refl
  apply_var (app s ts) = ap (app s) (apply_all_var ts)

  pub apply_all_var : {X : Type 0} (ts : Terms X) → apply_all var ts ≡ ts
  apply_all_var nil = refl
  apply_all_var (cons t ts) = ap₂ cons (apply_var t) (apply_all_var ts)

-- A substitution's result depends on the variables that occur.
module _ {X Y : Type 0} (γ δ : X → Term Y) where
  mutual
    pub apply_agree : (t : Term X) → Variables (λ x. γ x ≡ δ x) t → apply γ t ≡ apply δ t
    apply_agree (var x) h = h
    apply_agree (app s ts) h = ap (app s) (apply_all_agree ts h)

    pub apply_all_agree : (ts : Terms X) → AllVariables (λ x. γ x ≡ δ x) ts → apply_all γ ts ≡ apply_all δ ts
    apply_all_agree nil h = refl
    apply_all_agree (cons t ts) h = ap₂ cons (apply_agree t h.0) (apply_all_agree ts h.1)

-- What holds of all variables that occur.
module _ {X : Type 0} (P Q : X → Type 0) (f : (x : X) → P x → Q x) where
  mutual
    pub variables_more : (t : Term X) → Variables P t → Variables Q t
    variables_more (var x) h = f x h
    variables_more (app s ts) h = all_variables_more ts h

    pub all_variables_more : (ts : Terms X) → AllVariables P ts → AllVariables Q ts
    all_variables_more nil h = tt
    all_variables_more (cons t ts) h = (variables_more t h.0, all_variables_more ts h.1)

module _ {X : Type 0} (P Q : X → Type 0) where
  mutual
    pub variables_both : (t : Term X) → Variables P t → Variables Q t → Variables (λ x. P x × Q x) t
    variables_both (var x) h k = (h, k)
    variables_both (app s ts) h k = all_variables_both ts h k

    pub all_variables_both : (ts : Terms X) → AllVariables P ts → AllVariables Q ts → AllVariables (λ x. P x × Q x) ts
    all_variables_both nil h k = tt
    all_variables_both (cons t ts) h k = (variables_both t h.0 k.0, all_variables_both ts h.1 k.1)

module _ {X : Type 0} (P : X → Type 0) (f : (x : X) → P x) where
  mutual
    pub variables_all : (t : Term X) → Variables P t
    variables_all (var x) = f x
    variables_all (app s ts) = all_variables_all ts

    pub all_variables_all : (ts : Terms X) → AllVariables P ts
    all_variables_all nil = tt
    all_variables_all (cons t ts) = (variables_all t, all_variables_all ts)

module _ {X Y : Type 0} (P : Y → Type 0) (γ : X → Term Y) where
  mutual
    pub variables_apply : (t : Term X) → Variables (λ x. Variables P (γ x)) t → Variables P (apply γ t)
    variables_apply (var x) h = h
    variables_apply (app s ts) h = all_variables_apply ts h

    pub all_variables_apply : (ts : Terms X) → AllVariables (λ x. Variables P (γ x)) ts → AllVariables P (apply_all γ ts)
    all_variables_apply nil h = tt
    all_variables_apply (cons t ts) h = (variables_apply t h.0, all_variables_apply ts h.1)
