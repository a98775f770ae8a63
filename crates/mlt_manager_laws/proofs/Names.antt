-- Names of other crates, of std and of specs/ that two files of these proofs or more import. Declares nothing.
pub use Rattle.mlt_event.specs.declared.{answer.Answer.Answer, event.Event.Event, told.Told.Told}
pub use Rattle.mlt_hash.specs.Walks.{context_by}
pub use Rattle.mlt_manager.{proofs.Called.one_there, proofs.Promises.promises_kept, specs.Answers.HasStepped, specs.Answers.txs_after, specs.Events.Meets, specs.Managers.IsManager, specs.Managers.ManagerFields, specs.Managers.state_of}
pub use Rattle.mlt_manager_invariant.proofs.Tables.{inserted_elsewhere, removed_elsewhere}
pub use Rattle.mlt_object_kinds.specs.declared.operation.ObjOp.{ObjOp}
pub use Rattle.mlt_tx.specs.{declared.transaction.At.At, declared.transaction.Transaction.Transaction, Tables.Table}
pub use Rattle.mlt_tx_step_counts.specs.OwnSteps.{view_in}
