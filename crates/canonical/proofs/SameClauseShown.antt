-- Document 02, Q-10: the same clause up to renaming has the same literals in the second readout, and the other way round where there is no `~`.
use Rattle.canonical.specs.SameClause.{SameClauseSameLine}
use Rattle.canonical.proofs.ByAppearance.{numbered_by_appearance}
use Rattle.canonical.proofs.Reading.{read_in_one_way_lem}
use Rattle.canonical.proofs.Related.{related_by_text}
use Rattle.canonical.proofs.Renaming.{same_text_renamed}
use Rattle.canonical.proofs.ShownOfFiles.{listed_numbers, listed_names}
use Rattle.canonical.proofs.Tildes.{tilde_told}

pub same_clause_same_line : SameClauseSameLine
same_clause_same_line = record {
  same_text = same_text_renamed;
  related = λ file other lengths otherLengths ls ms L M e n. related_by_text ls ms (listed_numbers file lengths ls L) (listed_numbers other otherLengths ms M) e n;
  tilde = tilde_told;
  read_in_one_way = read_in_one_way_lem;
  numbered = numbered_by_appearance;
  one_variable = listed_names;
}
