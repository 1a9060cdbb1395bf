-- The keeper's faults are counted, and never forgotten.
use Rattle.std.proofs.Common.{◌≡◌, ℕ, ◌≤◌, [], ◌∷◌, inl, inr, subst, sym, arith}
use Rattle.std.proofs.Math.Nat.{le_refl}
use Rattle.std.specs.Prelude.{Ok, Err}
use Rattle.fpl_http.specs.Stream.{Request as Message}
use Rattle.request_handler.specs.Faults.{FaultsNeverFall}
use Rattle.request_handler.specs.Replying.{Asking, RepliesAlong, RepliesTo, Reply, Served, Way, asked_by, caller_of}

same_count : (old new : Served) → new ≡ old → old.failed ≤ new.failed
same_count old new same = subst (λ (s : Served). old.failed ≤ s.failed) (sym same) (le_refl old.failed)

replied_count : (asking : Asking) (old new : Served) (reply : Reply) → RepliesTo asking old reply new → old.failed ≤ new.failed
replied_count (Err refusal) old new reply to = same_count old new to.0
replied_count (Ok (caller, request)) old new reply (inl to) = same_count old new to.0
replied_count (Ok (caller, request)) old new reply (inr how) = how.no_fewer

along_count : (way : Way) (old new : Served) (message : Message) (reply : Reply) → RepliesAlong way old message reply new → old.failed ≤ new.failed
along_count (Err refusal) old new message reply to = same_count old new to.0
along_count (Ok (route, ids)) old new message reply (inl fails) = fails.later
along_count (Ok (route, ids)) old new message reply (inr (ready, is, to)) =
    subst (λ (s : Served). s.failed ≤ new.failed) is (replied_count (asked_by (caller_of ready.host message.key) route ids message.body) ready new reply to)

both_counts : (a b c : ℕ) → a ≤ b → b ≤ c → a ≤ c
both_counts a b c one other = omega (arith, one, other)

pub faults_never_fall : FaultsNeverFall
faults_never_fall old new [] [] run = same_count old new run
faults_never_fall old new [] (t ∷ texts) run = absurd run
faults_never_fall old new (m ∷ messages) [] run = absurd run
faults_never_fall old new (m ∷ messages) (t ∷ texts) (mid, speaks, rest) =
    let (way, goes, to) = speaks.answered in
    both_counts old.failed mid.failed new.failed (along_count way old mid m speaks.answer to) (faults_never_fall mid new messages texts rest)
