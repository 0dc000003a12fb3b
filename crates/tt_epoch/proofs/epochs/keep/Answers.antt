use Rattle.std.proofs.Common.{[], refl}
use Rattle.tt_epoch.specs.Disk.{Write, SyncDraft, Install, SyncFolder}
use Rattle.tt_epoch.specs.Course.{Writes, Syncs, Installs, Fixes, Answered}
use Rattle.tt_epoch.proofs.Going.{done, broke}
use Rattle.tt_epoch.proofs.epochs.keep.Goals as goal

pub returns-in-Err : goal.returns-in-Err
returns-in-Err g c =
    let n = c.args.next in
    record { course = broke g.S.Store.does (Writes n) _ _ _ (Writes n) (Write n) _ _ ([], refl, refl) c.write.ensures c.in-Err.is refl refl }

pub returns-in-Err-sync_draft : goal.returns-in-Err-sync_draft
returns-in-Err-sync_draft g c =
    let n = c.args.next in
    let written = done g.S.Store.does (Writes n) _ _ _ (Writes n) (Syncs n) (Write n) _ _ ([], refl, refl) c.write.ensures c.in_default.is refl refl in
    record { course = broke g.S.Store.does (Writes n) _ _ _ (Syncs n) SyncDraft _ _ written c.sync_draft.ensures c.in-Err-sync_draft.is refl refl }

pub returns-in-Err-install : goal.returns-in-Err-install
returns-in-Err-install g c =
    let n = c.args.next in
    let written = done g.S.Store.does (Writes n) _ _ _ (Writes n) (Syncs n) (Write n) _ _ ([], refl, refl) c.write.ensures c.in_default.is refl refl in
    let firm = done g.S.Store.does (Writes n) _ _ _ (Syncs n) (Installs n) SyncDraft _ _ written c.sync_draft.ensures c.in_default-sync_draft.is refl refl in
    record { course = broke g.S.Store.does (Writes n) _ _ _ (Installs n) Install _ _ firm c.install.ensures c.in-Err-install.is refl refl }

pub returns-in-Err-sync_folder : goal.returns-in-Err-sync_folder
returns-in-Err-sync_folder g c =
    let n = c.args.next in
    let written = done g.S.Store.does (Writes n) _ _ _ (Writes n) (Syncs n) (Write n) _ _ ([], refl, refl) c.write.ensures c.in_default.is refl refl in
    let firm = done g.S.Store.does (Writes n) _ _ _ (Syncs n) (Installs n) SyncDraft _ _ written c.sync_draft.ensures c.in_default-sync_draft.is refl refl in
    let there = done g.S.Store.does (Writes n) _ _ _ (Installs n) (Fixes n) Install _ _ firm c.install.ensures c.in_default-install.is refl refl in
    record { course = broke g.S.Store.does (Writes n) _ _ _ (Fixes n) SyncFolder _ _ there c.sync_folder.ensures c.in-Err-sync_folder.is refl refl }

pub returns : goal.returns
returns g c =
    let n = c.args.next in
    let written = done g.S.Store.does (Writes n) _ _ _ (Writes n) (Syncs n) (Write n) _ _ ([], refl, refl) c.write.ensures c.in_default.is refl refl in
    let firm = done g.S.Store.does (Writes n) _ _ _ (Syncs n) (Installs n) SyncDraft _ _ written c.sync_draft.ensures c.in_default-sync_draft.is refl refl in
    let there = done g.S.Store.does (Writes n) _ _ _ (Installs n) (Fixes n) Install _ _ firm c.install.ensures c.in_default-install.is refl refl in
    record { course = done g.S.Store.does (Writes n) _ _ _ (Fixes n) (Answered n) SyncFolder _ _ there c.sync_folder.ensures c.in_default-sync_folder.is refl refl }
