-- Document 01, "The file", in bytes: byte 0 is the kind, byte 1 a count, and bytes 2 to 15 are seven fields, each with its low byte first. Document 02, Q-11: in the
-- new form bytes 16 to 19 are two days, written the same way. And records by their kind.
use Rattle.std.specs.Prelude.{◌≡◌, Bool, List, [], ◌∷◌, ◌++◌, map, ℕ, replicate}
use Rattle.std.proofs.Math.Option.{none}
use Rattle.record.specs.Bytes.{bytes_in, file_bytes}
use Rattle.record.specs.Record.{pick, Record, old_file, new_file, with_days, records}
use Rattle.record.specs.Sorts.{is_symbol, is_row, is_input, is_step, is_clause, is_window, how_many}
use Rattle.record.specs.declared.Form.TheVariants.{New}

-- Sixteen bytes, no two alike, and the record that they are.
abbrev pub sixteen_bytes : List ℕ
sixteen_bytes = 5 ∷ 7 ∷ 1 ∷ 2 ∷ 3 ∷ 4 ∷ 255 ∷ 6 ∷ 0 ∷ 8 ∷ 9 ∷ 10 ∷ 11 ∷ 12 ∷ 13 ∷ 14 ∷ []

abbrev pub their_record : Record
their_record = record { kind = 5; count = 7; fields = 513 ∷ 1027 ∷ 1791 ∷ 2048 ∷ 2569 ∷ 3083 ∷ 3597 ∷ []; days = none }

abbrev pub zero_record : Record
zero_record = record { kind = 0; count = 0; fields = replicate 7 0; days = none }

-- The same with the days 4,111 and 4,625.
abbrev pub twenty_bytes : List ℕ
twenty_bytes = sixteen_bytes ++ (15 ∷ 16 ∷ 17 ∷ 18 ∷ [])

abbrev pub with_their_days : Record
with_their_days = with_days their_record 4111 4625

pub record BytesHold : Type 0 where
  -- Read, and written.
  pub one : records (old_file sixteen_bytes) ≡ their_record ∷ []
  pub written : file_bytes (their_record ∷ []) ≡ sixteen_bytes
  -- Records follow each other without a header; bytes that make no whole record are none.
  pub two : records (old_file (replicate 16 0 ++ (sixteen_bytes ++ (1 ∷ 2 ∷ [])))) ≡ zero_record ∷ their_record ∷ []
  -- The same in the new form.
  pub one_new : records (new_file twenty_bytes) ≡ with_their_days ∷ []
  pub written_new : bytes_in New (with_their_days ∷ []) ≡ twenty_bytes
  pub two_new : records (new_file (replicate 20 0 ++ (twenty_bytes ++ (1 ∷ 2 ∷ [])))) ≡ with_days zero_record 0 0 ∷ with_their_days ∷ []

-- ── Records by their kind ──

-- A record of a kind, and which kinds of a list are of a sort.
abbrev pub of_kind : ℕ → Record
of_kind k = record { kind = k; count = 0; fields = replicate 7 0; days = none }

abbrev pub kinds_of : (Record → Bool) → List ℕ → List ℕ
kinds_of sort [] = []
kinds_of sort (k ∷ ks) = pick (sort (of_kind k)) (k ∷ kinds_of sort ks) (kinds_of sort ks)

abbrev pub zero_to_nine : List ℕ
zero_to_nine = 0 ∷ 1 ∷ 2 ∷ 3 ∷ 4 ∷ 5 ∷ 6 ∷ 7 ∷ 8 ∷ 9 ∷ []

-- Documents 01 and 02: kind 1 is a symbol, 2 and 3 are rows, 4 is an input clause, 5, 6 and 7 are steps, and 8 is a window.
pub record SortsHold : Type 0 where
  pub symbols : kinds_of is_symbol zero_to_nine ≡ 1 ∷ []
  pub rows : kinds_of is_row zero_to_nine ≡ 2 ∷ 3 ∷ []
  pub inputs : kinds_of is_input zero_to_nine ≡ 4 ∷ []
  pub steps : kinds_of is_step zero_to_nine ≡ 5 ∷ 6 ∷ 7 ∷ []
  pub clauses : kinds_of is_clause zero_to_nine ≡ 4 ∷ 5 ∷ 6 ∷ 7 ∷ []
  pub windows : kinds_of is_window zero_to_nine ≡ 8 ∷ []
  -- Of two symbols, three rows, an input clause, a step and a window.
  pub counted : how_many is_row (map of_kind (1 ∷ 2 ∷ 1 ∷ 3 ∷ 3 ∷ 4 ∷ 5 ∷ 8 ∷ [])) ≡ 3
