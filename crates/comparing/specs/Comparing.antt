-- How the program compares two clauses after a check: the contracts of its inner functions. No promise of the crate needs this file.
use Rattle.std.specs.Prelude.{◌≡◌, Bool, ◌&&◌, List, ℕ, eqb, ltb}
use Rattle.record.specs.Record.{File}
use Rattle.derivation.specs.Stored.{origin_code}
use Rattle.verdict.specs.Tables.{Tables}
use Rattle.entry.specs.Progress.{tables_with}
use Rattle.checker.specs.Contract.{Workspace, workspace_with, CheckedWith}
use Rattle.answer.specs.declared.Answer as answer
use Rattle.coverings.specs.Answering.{Answer, ten_numbers, AnswerPromised}
use Rattle.comparing.specs.Given.{Covering, covering_given}

-- The tests before it.
abbrev pub is_input : List ℕ → ℕ → ℕ → Bool
is_input O count c = ltb c count && eqb (origin_code O c) 1

-- What is there after a check of some file: its answer, for some tables before it, with the workspace that it left.
pub record AfterCheck (C N O : List ℕ) (a : answer.Answer) : Type 0 where
  pub day : ℕ
  pub file : File
  pub before : Tables
  pub lent : Workspace
  pub symbols : List ℕ
  pub rows : List ℕ
  pub bindings : List ℕ
  pub values : List ℕ
  pub checked : CheckedWith day file before lent a (tables_with symbols rows C bindings) (workspace_with N O values)

-- What comparing says, whichever file was checked and whichever tables there were before.
pub record CoveringOf (file : File) (before : Tables) (c d : ℕ) (r : Covering) : Type 0 where
  pub answer : Answer
  pub numbers : covering_given r ≡ ten_numbers answer
  pub promised : AnswerPromised file before c d answer

pub record Compared (C N O : List ℕ) (a : answer.Answer) (c d : ℕ) (r : Covering) : Type 0 where
  pub covering : (R : AfterCheck C N O a) → CoveringOf R.file R.before c d r
