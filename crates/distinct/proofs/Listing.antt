-- The index: empty, kept while rows are written after those that it is of, and with a row more.
use mathlib.Core.Path.{◌≡◌, refl, sym, ap, ◌∙◌, subst}
use mathlib.Core.Bool.{Bool, true, false}
use mathlib.Core.Option.{none}
use mathlib.Core.List.{List, ◌∷◌}
use Prim.Native.Nat.{ℕ, zero, suc, ◌+◌, ◌*◌, ◌≤◌, ◌<◌}
use native.Mathlib.Omega.{arith}
use lib.Dec.{eqb}
use lib.ListN.{length, get_or, set, replicate, length-set, length-replicate}
use lib.Seq.{get_or-set_same, get_or-set_other}
use borrow.Author.Tests.{eqb-true, eqb-false}
use Rattle.std.specs.Prelude.{None}
use Rattle.std.specs.Prelude.{Option as Answer}
use Rattle.record.specs.Answered.{answered}
use Rattle.unification.specs.Nodes.{HasRow}
use Rattle.distinct.specs.Rows.{node_at, with_node, row_with_cells}
use Rattle.distinct.specs.Index.{bucket_of, OnChain, first, later, Indexed, Findable, Listable}
use Rattle.distinct.proofs.Cells.{listed_cells, cells_listed}
use Rattle.distinct.proofs.Lowest.{no_row, found_nowhere}
use Rattle.distinct.proofs.Writing.{written_length, written_own, written_below}

zeros : (n i : ℕ) → ◌≡◌ {A = ℕ} (get_or (replicate n 0) i 0) 0
zeros zero i = refl
zeros (suc n) zero = refl
zeros (suc n) (suc i) = zeros n i

-- Heads and links that are all zero are the index of no rows.
pub index_empty : (N H L : List ℕ) → length N ≡ 32768 → length H ≡ 4096 → length L ≡ 4096 → ((b : ℕ) → get_or H b 0 ≡ 0) → ((q : ℕ) → get_or L q 0 ≡ 0) → Indexed N 0 H L
index_empty N H L l m k h f = record {
  nodes = l;
  heads = m;
  links = k;
  few = omega arith;
  heads_fall = λ b. let z = h b in omega arith;
  links_fall = λ q. let z = f q in omega arith;
  on_chain = λ r l. absurd (omega arith);
  once = λ r q l. absurd (omega arith);
}

pub index_zeros : (N : List ℕ) (n : ℕ) → n ≡ 4096 → length N ≡ 32768 → Indexed N 0 (replicate n 0) (replicate n 0)
index_zeros N n e l = index_empty N (replicate n 0) (replicate n 0) l (length-replicate n 0 ∙ e) (length-replicate n 0 ∙ e) (zeros n) (zeros n)

-- A row written after the rows of the index.
module _ {N : List ℕ} {n : ℕ} {H L : List ℕ} (I : Indexed N n H L) (cells : List ℕ) (eight : length cells ≡ 8) (l : n < 4096) where
  room : 8 * n + 8 ≤ length N
  room = let z = I.nodes in omega arith

  abbrev M : List ℕ
  M = with_node N n cells

  below : (r : ℕ) → r < n → node_at (with_node N n cells) r ≡ node_at N r
  below = written_below N n cells eight room

  own : node_at (with_node N n cells) n ≡ cells
  own = written_own N n cells eight room

  before : (r : ℕ) → r < n → HasRow (with_node N n cells) r → HasRow N r
  before r k h = listed_cells N r (node_at M r) (sym (below r k)) (cells_listed M r (node_at M r) refl h)

  pub index_kept : Indexed (with_node N n cells) n H L
  index_kept = record {
    nodes = written_length N n cells eight room ∙ I.nodes;
    heads = I.heads;
    links = I.links;
    few = I.few;
    heads_fall = I.heads_fall;
    links_fall = I.links_fall;
    on_chain = λ r k h. subst (λ (row : List ℕ). OnChain L (get_or H (bucket_of row) 0) r) (sym (below r k)) (I.on_chain r k (before r k h));
    once = λ r q k m h j e. I.once r q k m (before r k h) (before q m j) (sym (below r k) ∙ e ∙ below q m);
  }

  -- A repeat is not listed.
  pub index_repeat : get_or cells 0 0 ≡ 0 → Indexed (with_node N n cells) (n + 1) H L
  index_repeat z = record {
    nodes = index_kept.nodes;
    heads = I.heads;
    links = I.links;
    few = omega arith;
    heads_fall = λ b. let f = I.heads_fall b in omega arith;
    links_fall = I.links_fall;
    on_chain = λ r k h. index_kept.on_chain r (older r k h) h;
    once = λ r q k m h j. index_kept.once r q (older r k h) (older q m j) h j;
  }
    where
      older : (r : ℕ) → r < n + 1 → HasRow (with_node N n cells) r → r < n
      older r k h = try (eqb r n) refl
        where
          try : (b : Bool) → eqb r n ≡ b → r < n
          try true q = let x = cells_listed M r cells (ap (node_at M) (eqb-true r n q) ∙ own) h in absurd (omega arith)
          try false q = let d : ¬ (r ≡ n) = eqb-false r n q in omega arith

  -- Cells that were not found can be listed.
  pub index_listable : 0 < get_or cells 0 0 → row_with_cells N n cells ≡ none → Listable (with_node N n cells) n H L
  index_listable p z = record {
    index = index_kept;
    room = l;
    there = listed_cells M n cells own p;
    new = λ r k e. no_row N n cells z r k (sym (below r k) ∙ e ∙ own);
  }

-- A chain of rows below n does not come to row n.
chain_kept : {L : List ℕ} (n v : ℕ) → ((q : ℕ) → get_or L q 0 ≤ q) → {c r : ℕ} → OnChain L c r → c ≤ n → OnChain (set L n v) c r
chain_kept n v f first k = first
chain_kept {L} n v f (later {q} {r} h) k =
    later (subst (λ (c : ℕ). OnChain (set L n v) c r) (sym (get_or-set_other L n q v 0 (λ e. omega arith))) (chain_kept n v f h (let z = f q in omega arith)))

-- Row n becomes the newest of its bucket.
module _ {N : List ℕ} {n : ℕ} {H L : List ℕ} (A : Listable N n H L) (b : ℕ) (e : b ≡ bucket_of (node_at N n)) (small : b < 4096) where
  head_own : get_or (set H b (n + 1)) b 0 ≡ n + 1
  head_own = get_or-set_same H b (n + 1) 0 (let z = A.index.heads in omega arith)

  head_other : (k : ℕ) → ¬ (k ≡ b) → get_or (set H b (n + 1)) k 0 ≡ get_or H k 0
  head_other k d = get_or-set_other H b k (n + 1) 0 d

  link_own : get_or (set L n (get_or H b 0)) n 0 ≡ get_or H b 0
  link_own = get_or-set_same L n (get_or H b 0) 0 (let z = A.index.links in let y = A.room in omega arith)

  link_other : (q : ℕ) → ¬ (q ≡ n) → get_or (set L n (get_or H b 0)) q 0 ≡ get_or L q 0
  link_other q d = get_or-set_other L n q (get_or H b 0) 0 d

  heads_fall_lem : (k : ℕ) → get_or (set H b (n + 1)) k 0 ≤ n + 1
  heads_fall_lem k = try (eqb k b) refl
    where
      try : (t : Bool) → eqb k b ≡ t → get_or (set H b (n + 1)) k 0 ≤ n + 1
      try true q = let z = ap (λ (j : ℕ). get_or (set H b (n + 1)) j 0) (eqb-true k b q) in omega (arith, head_own)
      try false q = let z = head_other k (eqb-false k b q) in let y = A.index.heads_fall k in omega arith

  links_fall_lem : (k : ℕ) → get_or (set L n (get_or H b 0)) k 0 ≤ k
  links_fall_lem k = try (eqb k n) refl
    where
      try : (t : Bool) → eqb k n ≡ t → get_or (set L n (get_or H b 0)) k 0 ≤ k
      try true q =
          let w : k ≡ n = eqb-true k n q in
          let z = ap (λ (j : ℕ). get_or (set L n (get_or H b 0)) j 0) w in
          let y = A.index.heads_fall b in
          omega (arith, link_own)
      try false q = let z = link_other k (eqb-false k n q) in let y = A.index.links_fall k in omega arith

  -- A chain of the index, after it.
  chain_after : {c r : ℕ} → OnChain L c r → c ≤ n → OnChain (set L n (get_or H b 0)) c r
  chain_after h k = chain_kept n (get_or H b 0) A.index.links_fall h k

  newest : (r : ℕ) → r ≡ n → OnChain (set L n (get_or H b 0)) (get_or (set H b (n + 1)) (bucket_of (node_at N r)) 0) r
  newest r q =
      let z : get_or (set H b (n + 1)) (bucket_of (node_at N r)) 0 ≡ suc r =
      ap (λ (p : ℕ). get_or (set H b (n + 1)) (bucket_of (node_at N p)) 0) q ∙ ap (λ (k : ℕ). get_or (set H b (n + 1)) k 0) (sym e) ∙ head_own ∙ (let y : n + 1 ≡ suc r = omega arith in y) in
      subst (λ (c : ℕ). OnChain (set L n (get_or H b 0)) c r) (sym z) first

  older : (r : ℕ) → r < n → HasRow N r → OnChain (set L n (get_or H b 0)) (get_or (set H b (n + 1)) (bucket_of (node_at N r)) 0) r
  older r k h = try (eqb (bucket_of (node_at N r)) b) refl
    where
      try : (t : Bool) → eqb (bucket_of (node_at N r)) b ≡ t → OnChain (set L n (get_or H b 0)) (get_or (set H b (n + 1)) (bucket_of (node_at N r)) 0) r
      try true q =
          let w : bucket_of (node_at N r) ≡ b = eqb-true (bucket_of (node_at N r)) b q in
          let z : get_or (set H b (n + 1)) (bucket_of (node_at N r)) 0 ≡ suc n = ap (λ (j : ℕ). get_or (set H b (n + 1)) j 0) w ∙ head_own ∙ (let y : n + 1 ≡ suc n = omega arith in y) in
          let g : OnChain L (get_or H b 0) r = subst (λ (j : ℕ). OnChain L (get_or H j 0) r) w (A.index.on_chain r k h) in
          subst (λ (c : ℕ). OnChain (set L n (get_or H b 0)) c r) (sym z)
          (later (subst (λ (c : ℕ). OnChain (set L n (get_or H b 0)) c r) (sym link_own) (chain_after g (A.index.heads_fall b))))
      try false q =
          subst (λ (c : ℕ). OnChain (set L n (get_or H b 0)) c r) (sym (head_other (bucket_of (node_at N r)) (eqb-false (bucket_of (node_at N r)) b q)))
          (chain_after (A.index.on_chain r k h) (A.index.heads_fall (bucket_of (node_at N r))))

  pub index_more : Indexed N (n + 1) (set H b (n + 1)) (set L n (get_or H b 0))
  index_more = record {
    nodes = A.index.nodes;
    heads = length-set H b (n + 1) ∙ A.index.heads;
    links = length-set L n (get_or H b 0) ∙ A.index.links;
    few = let z = A.room in omega arith;
    heads_fall = heads_fall_lem;
    links_fall = links_fall_lem;
    on_chain = λ r k h. chained r k h (eqb r n) refl;
    once = λ r q k m h j x. alone r q k m h j x (eqb r n) refl (eqb q n) refl;
  }
    where
      chained : (r : ℕ) → r < n + 1 → HasRow N r → (t : Bool) → eqb r n ≡ t → OnChain (set L n (get_or H b 0)) (get_or (set H b (n + 1)) (bucket_of (node_at N r)) 0) r
      chained r k h true q = newest r (eqb-true r n q)
      chained r k h false q = let d : ¬ (r ≡ n) = eqb-false r n q in older r (omega arith) h

      alone : (r q : ℕ) → r < n + 1 → q < n + 1 → HasRow N r → HasRow N q → node_at N r ≡ node_at N q → (s : Bool) → eqb r n ≡ s → (t : Bool) → eqb q n ≡ t → r ≡ q
      alone r q k m h j x true y true z = eqb-true r n y ∙ sym (eqb-true q n z)
      alone r q k m h j x true y false z = let d : ¬ (q ≡ n) = eqb-false q n z in absurd (A.new q (omega arith) (sym x ∙ ap (node_at N) (eqb-true r n y)))
      alone r q k m h j x false y true z = let d : ¬ (r ≡ n) = eqb-false r n y in absurd (A.new r (omega arith) (x ∙ ap (node_at N) (eqb-true q n z)))
      alone r q k m h j x false y false z =
          let d : ¬ (r ≡ n) = eqb-false r n y in
          let f : ¬ (q ≡ n) = eqb-false q n z in
          A.index.once r q (omega arith) (omega arith) h j x

-- After a search that found nothing, the cells are written as row n, and row n can be listed.
pub not_found_listable : {N : List ℕ} {n : ℕ} {H L : List ℕ} {code : ℕ} {numbers : List ℕ} → Findable N n H L code numbers → n < 4096 → {f : Answer ℕ} → f ≡ answered (row_with_cells N n (code ∷ numbers)) → f ≡ None
    → Listable (with_node N n (code ∷ numbers)) n H L
not_found_listable {N} {n} {H} {L} {code} {numbers} F l p q = index_listable F.index (code ∷ numbers) (let z = F.seven in omega arith) l F.coded (found_nowhere (row_with_cells N n (code ∷ numbers)) p q)
