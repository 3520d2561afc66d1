-- The index of the listed rows, which are those whose first cell is not 0: a hash of their cells, with a chain of rows for each
-- bucket, the newest row first.
use Rattle.std.specs.Prelude.{◌≡◌, List, [], ◌∷◌, ℕ, suc, ◌+◌, ◌*◌, ◌/◌, ◌%◌, ◌≤◌, ◌<◌, length, get_or}
use Rattle.unification.specs.Nodes.{HasRow}
use Rattle.distinct.specs.Rows.{node_at}

-- Each cell times a number of its own, added up.
abbrev pub weighted : List ℕ → List ℕ → ℕ
weighted [] ks = 0
weighted (c ∷ cs) [] = 0
weighted (c ∷ cs) (k ∷ ks) = c * k + weighted cs ks

-- Odd numbers of 32 bits by which rows with rising numbers spread well.
abbrev pub weights : List ℕ
weights = 4031196873 ∷ 2649911597 ∷ 2656104757 ∷ 3283478129 ∷ 3947238811 ∷ 3153260809 ∷ 2745936943 ∷ 4180041711 ∷ []

-- The bucket of a row's cells: the upper 12 bits of 32.
unfoldable pub bucket_of : List ℕ → ℕ
bucket_of cells = weighted cells weights % 4294967296 / 1048576

-- Row r is on the chain that begins with c; c is 0, or one more than its first row.
pub data OnChain (L : List ℕ) : ℕ → ℕ → Type 0 where
  first : {r : ℕ} → OnChain L (suc r) r
  later : {q r : ℕ} → OnChain L (get_or L q 0) r → OnChain L (suc q) r

-- H and L are an index of the listed rows below n: each is on the chain of its bucket, and no two have the same cells. Chains fall,
-- so they end.
pub record Indexed (N : List ℕ) (n : ℕ) (H L : List ℕ) : Type 0 where
  pub nodes : length N ≡ 32768
  pub heads : length H ≡ 4096
  pub links : length L ≡ 4096
  pub few : n ≤ 4096
  pub heads_fall : (b : ℕ) → get_or H b 0 ≤ n
  pub links_fall : (q : ℕ) → get_or L q 0 ≤ q
  pub on_chain : (r : ℕ) → r < n → HasRow N r → OnChain L (get_or H (bucket_of (node_at N r)) 0) r
  pub once : (r q : ℕ) → r < n → q < n → HasRow N r → HasRow N q → node_at N r ≡ node_at N q → r ≡ q

-- What a search asks: an index, and cells that a listed row can have.
pub record Findable (N : List ℕ) (n : ℕ) (H L : List ℕ) (code : ℕ) (numbers : List ℕ) : Type 0 where
  pub index : Indexed N n H L
  pub seven : length numbers ≡ 7
  pub coded : 0 < code

-- What listing row n asks: an index of the rows below it, none of which has its cells.
pub record Listable (N : List ℕ) (n : ℕ) (H L : List ℕ) : Type 0 where
  pub index : Indexed N n H L
  pub room : n < 4096
  pub there : HasRow N n
  pub new : (r : ℕ) → r < n → ¬ (node_at N r ≡ node_at N n)
