-- Rows, expressions, bindings, literals and clauses renumbered.
use mathlib.Core.List.{map}
use Rattle.unification.specs.Environment.{Binding}
use Rattle.unification.specs.Row.{variable, Row, application, Expression}
use Rattle.unification.specs.Unification.{Pair}
use Rattle.derivation.specs.Derivation.{input, Literal, Derivation, resolve, factor}
use Rattle.renumbering.specs.Renumbering.{Renumbering, renumbered_row_literal}

module _ (N : Renumbering) where
  -- A row, an expression and a binding.
  abbrev pub renumbered_row : Row → Row
  renumbered_row (variable v) = variable v
  renumbered_row (application s xs) = application (N.symbol s) (map N.row xs)

  abbrev pub renumbered_expression : Expression → Expression
  renumbered_expression e = (N.row e.0, e.1)

  abbrev pub renumbered_pair : Pair → Pair
  renumbered_pair p = (renumbered_expression p.0, renumbered_expression p.1)

  abbrev pub renumbered_binding : Binding → Binding
  renumbered_binding b = (renumbered_expression b.0, renumbered_expression b.1)

  -- A literal of any clause.
  abbrev pub renumbered_literal : Literal → Literal
  renumbered_literal l = (l.0, renumbered_expression l.1)

  -- A clause, with all clauses of its derivation.
  abbrev pub renumbered_derivation : Derivation → Derivation
  renumbered_derivation (input number ls) = input (N.clause number) (map (renumbered_row_literal N) ls)
  renumbered_derivation (resolve number l a r ns bs) = resolve (N.clause number) (renumbered_derivation l) a (renumbered_derivation r) ns (map renumbered_binding bs)
  renumbered_derivation (factor number c a b bs) = factor (N.clause number) (renumbered_derivation c) a b (map renumbered_binding bs)
