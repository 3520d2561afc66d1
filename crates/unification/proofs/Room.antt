-- Unification holds no more bindings than there may be.
use mathlib.Core.Path.{◌≡◌}
use mathlib.Core.Bool.{false}
use mathlib.Core.List.{List, []}
use Prim.Native.Nat.{ℕ, ◌+◌, ◌≤◌, ◌<◌}
use native.Mathlib.Nat.{add-zero}
use native.Mathlib.Omega.{arith}
use lib.Dec.{nleb→lt}
use lib.ListN.{length}
use Rattle.unification.specs.Environment.{Binding, Environment}
use Rattle.unification.specs.Row.{Row, Expression, Variable}
use Rattle.unification.specs.Unification.{unify, most_work, most_bindings, most_links, Outcome, unified, failed, Pair, Task, unifying, testing, Turn, arguments, no_room, run}
use Rattle.unification.proofs.Turns.{Goes, m_full, m_bind, m_more, Move, m_finished, m_same, m_left, m_right, m_args, m_clash, m_endless, m_occurs, m_other, m_into, m_endless_test, After, runs}

module _ (row : ℕ → Row) (links held : ℕ) (base : Environment) where
  abbrev Room : List Binding → Type 0
  Room bs = held + length bs ≤ most_bindings

  abbrev RoomTask : Task → Type 0
  RoomTask (unifying bs ps) = Room bs
  RoomTask (testing bs x e o os ps) = Room bs

  abbrev RoomEnd : Outcome → Type 0
  RoomEnd (unified bs n) = Room bs
  RoomEnd (failed r) = Unit {0}

  room_below : (bs : List Binding) → no_room held bs ≡ false → held + length bs < most_bindings
  room_below bs q = nleb→lt most_bindings (held + length bs) (rw q tt)

  room_goes : (bs : List Binding) (x : Variable) (e : Expression) (ps : List Pair) (os : List Expression) (t : Turn) → Goes row links (no_room held) base bs x e ps os t → Room bs → After row links (no_room held) base RoomTask RoomEnd t
  room_goes bs x e ps os t (m_full q) h = tt
  room_goes bs x e ps os t (m_bind q) h = omega (arith, room_below bs q)
  room_goes bs x e ps os t m_more h = h

  room_turn : (s : Task) (t : Turn) → Move row links (no_room held) base s t → RoomTask s → After row links (no_room held) base RoomTask RoomEnd t
  room_turn s t m_finished h = λ n. h
  room_turn s t (m_same v w f g q) h = h
  room_turn s t (m_left v e w f g n q) h = h
  room_turn s t (m_right u xs e w d f g) h = h
  room_turn s t (m_args u xs e ys d f g) h = h
  room_turn s t (m_clash u xs e w ys d f g q) h = tt
  room_turn s t (m_endless o d f z) h = tt
  room_turn s t (m_occurs v d f q) h = tt
  room_turn s t (m_other {bs} {x} {e} {o} {os} {ps} v d f n m) h = room_goes bs x e ps os t m h
  room_turn s t (m_into {bs} {x} {e} {o} {os} {ps} u xs d f m) h = room_goes bs x e ps (arguments xs d.1 os) t m h
  room_turn s t (m_endless_test d f) h = tt

  pub room_run : (n : ℕ) (s : Task) → RoomTask s → RoomEnd (run row links (no_room held) base n s)
  room_run n s h = runs row links (no_room held) base RoomTask RoomEnd room_turn tt n s h

pub bindings_fit : (row : ℕ → Row) (held : ℕ) (base : Environment) (ps : List Pair) (bs : List Binding) (n : ℕ) → unify row held base ps ≡ unified bs n → held ≤ most_bindings → held + length bs ≤ most_bindings
bindings_fit row held base ps bs n q h = rw q at (room_run row most_links held base most_work (unifying [] ps) (rw add-zero h))
