-- What may go to another thread, and what threads may share, if the disk may. The kit does not say it of a type with a
-- seat of a table, so it is shown by hand.
use denote.Param.Send.{IsSend, IsSync, part_keyless, recorded_send, recorded_sync, sendable, struct_send, struct_sync}
use denote.RattleType.{RattleType}
use Rattle.std.proofs.Common.{ℕ, List, [], ◌∷◌}
use mir.Syntax.{Dict}
use Rattle.std.proofs.Crossing.{crosses, frees}
use Rattle.std.specs.contracts.alloc.Global.{the_row as global_row}
use Rattle.session_run.specs.contracts.settings.Settings.{the_row as settings_row}
use Rattle.std_heap.specs.contracts.Global as Heap
use Rattle.std_heap.specs.contracts.GlobalAllocator.TheImpl.{ghosts}
use Rattle.atomic_table.proofs.Rights.{right_send}
use Rattle.atomic_table.specs.contracts.send_lease.SendLease.{the_row as lease_row}
use Rattle.std.proofs.MapsCrossing.{crosses as maps_cross}
use denote.Builtin.{One}
use denote.Ref.{NamedLft}
use denote.Struct.Field.{shr_ref_field}
use denote.Struct.Struct.{Struct}
use denote.Struct.Tuple.{TupleAt}
use denote.Struct.Owning.{shape}
use denote.Struct.Declared as declared
use Rattle.atomic_table.proofs.Sent.{seat_keyless, shares_keyless}
use Rattle.atomic_table.specs.declared.shared.TableRule.{Ghosts as TableGhosts}
use Rattle.atomic_table.specs.contracts.shared.Seat.{the_row as seat_row}
use Rattle.atomic_table.specs.contracts.shared.Shared.{the_row as shared_row, the_type as shared_type}
use Rattle.turn_gate.specs.contracts.gate.Gate as gate
use Rattle.turn_gate.specs.contracts.gate.Pass as gate_pass
use Rattle.turn_gate.specs.declared.stands.Stands as stands
use Rattle.disk_edge.specs.declared.disk.Disk.{Ghosts}
use Rattle.disk_pair.specs.contracts.other.Other.{the_row as other_row}
use Rattle.disk_pair.specs.contracts.pair.Pair.{the_row as pair_row}
use Rattle.compact_core.specs.contracts.carry.Carry.{the_row as carry_row}
use Rattle.journal_core.specs.contracts.journal.Journal.{the_row as journal_row}
use Rattle.record_versions.specs.contracts.chain.Chain.{the_row as chain_row}
use Rattle.record_versions.specs.contracts.chains.Chains.{the_row as chains_row}
use Rattle.record_versions.specs.contracts.ring.Ring.{the_row as ring_row}
use Rattle.screen_index.specs.contracts.index.ScreenIndex.{the_row as index_row}
use Rattle.store_core.specs.contracts.kept.KeptEntries.{the_row as entries_row}
use Rattle.store_core.specs.contracts.record.Record.{the_row as record_row}
use Rattle.store_core.specs.contracts.store.Store.{the_row as memory_row}
use Rattle.store_disk.specs.contracts.copy.Copying.{the_row as copying_row}
use Rattle.store_disk.specs.contracts.store.Store.{the_row as store_row}
use Rattle.hall.specs.contracts.hall.Hall as hall
use Rattle.hall.specs.contracts.hall.Hall.{the_row as hall_row}
use Rattle.hall.specs.contracts.hall.HallPass as pass
use Rattle.hall.specs.contracts.hall.HallPass.{the_row as pass_row}
use Rattle.hall.specs.contracts.kept.Kept.{the_row as kept_row}
use Rattle.hall.specs.contracts.kept.KeptStands.TheImpl.{ghosts as kept_stands}
use Rattle.hall.specs.contracts.kept.Origin.{the_row as origin_row}
use Rattle.store_machine.specs.contracts.machine.Step.{the_row as step_row}
use Rattle.serve_ends.specs.contracts.slot.Slot.{the_row as slot_row}

record-send : IsSend record_row
record-send = search (sendable, crosses) depth 40 fits 20000

record-sync : IsSync record_row
record-sync = search (sendable, crosses) depth 40 fits 20000

index-send : (V : RattleType) → IsSend V → IsSend (index_row V)
index-send V v = search (sendable, crosses) depth 40 fits 20000

ring-send : (V : RattleType) → IsSend V → IsSend (ring_row V)
ring-send V v = search (sendable, crosses) depth 40 fits 20000

chain-send : (V : RattleType) → IsSend V → IsSend (chain_row V)
chain-send V v = let r = ring-send V v in search (sendable, crosses) depth 40 fits 20000

chains-send : (V : RattleType) → IsSend V → IsSend (chains_row V)
chains-send V v = let c = chain-send V v in search (sendable, crosses, maps_cross) depth 40

entries-send : IsSend entries_row
entries-send =
    let s = record-send in
    let y = record-sync in
    search (sendable, crosses, chains-send, index-send) depth 40

memory-send : IsSend memory_row
memory-send = let e = entries-send in search (sendable, crosses) depth 40

journal-send : (D : RattleType) (g : Ghosts D.Denot) → IsSend D → IsSend (journal_row D g)
journal-send D g d = search (sendable, crosses) depth 40

carry-send : (D : RattleType) (g : Ghosts D.Denot) → IsSend D → IsSend (carry_row D g)
carry-send D g d = search (sendable, crosses) depth 40

-- the disk beside the current one
other-send : (D : RattleType) (g : Ghosts D.Denot) → IsSend D → IsSend (other_row D g)
other-send D g d = let c = carry-send D g d in search (sendable, crosses) depth 40

pair-send : (D : RattleType) (g : Ghosts D.Denot) → IsSend D → IsSend (pair_row D g)
pair-send D g d =
    let j = journal-send D g d in
    let o = other-send D g d in
    search (sendable, crosses) depth 40

copying-send : IsSend copying_row
copying-send = search (sendable, crosses) depth 40

pub store-send : (D : RattleType) (g : Ghosts D.Denot) → IsSend D → IsSend (store_row D g)
store-send D g d =
    let m = memory-send in
    let p = pair-send D g d in
    let c = copying-send in
    search (sendable, crosses) depth 40

pub kept-send : (D : RattleType) (g : Ghosts D.Denot) → IsSend D → IsSend (kept_row D g)
kept-send D g d = let s = store-send D g d in search (sendable, crosses) depth 40

-- a seat goes where what its slot holds may go: the table's crate has proved it, and does not export it
seat-send : (S V : RattleType) → IsSend S → IsSend (seat_row S V)
seat-send S V s = record {
  owned = λ d vs. ((λ vss. (tt, ((λ uss. (tt, tt)), tt))), seat_keyless S s V.coded.code d.table_id d.id d.me);
  leaving = λ k f vs. tt;
}

gate-send : (V E O : RattleType) → IsSend V → IsSend (gate_pass.the_field V E O).row
gate-send V E O s = search (sendable, crosses, seat-send) depth 40

shares : (S V K P : RattleType) (g : TableGhosts P.Denot S.Denot V.Denot K.Denot) → IsSend S → IsSync (shared_row S V K P g)
shares S V K P g s =
    let fields : IsSync (Struct (shape (shared_type S V K P g))) = search sendable depth 20 in
    record {
      shared = λ d b o ν. (
        fields.shared (d.words, (d.slots, (tt, tt))) b o ν,
        shares_keyless S s V.coded.code d.table_id (g.holds d.key) d.words d.slots ν,
      );
    }

lease-sync : (T : RattleType) → IsSync (lease_row T Heap.the_row ghosts)
lease-sync T = record {
  shared = λ d b o ν q. part_keyless (lease_row T Heap.the_row ghosts)
      (right_send T Heap.the_row ghosts frees) q d b o;
}

gate-sync : (V E O : RattleType) (g : stands.Ghosts V.Denot E.Denot O.Denot) → IsSend V → IsSync (gate.the_field V E O g).row
gate-sync V E O g s = search (sendable, crosses, shares, lease-sync) depth 40

pub hall-sync : (D : RattleType) (g : Ghosts D.Denot) → Dict → IsSend D → IsSync (hall.the_field D g).row
hall-sync D g dict d = struct_sync (declared.shape (hall.the_type D g))
    (gate-sync (kept_row D g) step_row (origin_row D g) (kept_stands D g dict) (kept-send D g d), tt)

pub hall-row-sync : (D : RattleType) (g : Ghosts D.Denot) → Dict → IsSend D → IsSync (hall_row D g)
hall-row-sync D g dict d = recorded_sync (hall.the_field D g).row _ _ (hall.the_type D g).to_one (hall-sync D g dict d)

pub global-sync : IsSync global_row
global-sync = search sendable depth 30

pub settings-sync : IsSync settings_row
settings-sync = search sendable depth 30

-- what a closure captures by five references
pub captures-sync : (ν : List ℕ) (ℓ₁ ℓ₂ ℓ₃ ℓ₄ ℓ₅ : NamedLft) (A B C D E : RattleType) (a : One A.mir) (b : One B.mir)
    (c : One C.mir) (d : One D.mir) (e : One E.mir) → IsSync A → IsSync B → IsSync C → IsSync D → IsSync E
    → IsSync (TupleAt ν ((shr_ref_field ℓ₁ A a).row ∷ (shr_ref_field ℓ₂ B b).row ∷ (shr_ref_field ℓ₃ C c).row
    ∷ (shr_ref_field ℓ₄ D d).row ∷ (shr_ref_field ℓ₅ E e).row ∷ []))
captures-sync ν ℓ₁ ℓ₂ ℓ₃ ℓ₄ ℓ₅ A B C D E a b c d e sa sb sc sd se = search sendable depth 30

pub pass-send : (D : RattleType) (g : Ghosts D.Denot) → IsSend D → IsSend (pass_row D g)
pass-send D g d = recorded_send (pass.the_field D g).row _ _ (pass.the_type D g).to_one
    (struct_send (declared.shape (pass.the_type D g)) (
      gate-send (kept_row D g) step_row (origin_row D g)
          (kept-send D g d),
      tt,
    ))

pub slot-send : (D S K : RattleType) (g : Ghosts D.Denot) → IsSend D → IsSend S → IsSend K → IsSend (slot_row D S K g)
slot-send D S K g d s k = search (sendable, crosses, pass-send) depth 40
