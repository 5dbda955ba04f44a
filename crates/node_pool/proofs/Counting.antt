-- What an entry that is appended, or work that is handed out, leaves of what a pool is about, and does to its count.
use Rattle.std.proofs.Common.{◌≡◌, ◌⊎◌, inl, inr, ℕ, ◌+◌, [], ◌∷◌, length, ap, ◌∙◌}
use Rattle.std.proofs.lemmas.List.{length-append}
use Rattle.search_core.specs.declared.entry.Entry.{Entry}
use Rattle.node_pool.specs.declared.ticket.Work.{Work}
use Rattle.node_pool.specs.declared.ticket.Work.TheVariants.{Node as ANode, Candidate as ACandidate, Nothing, Done}
use Rattle.node_pool.specs.Parts.{PoolParts}
use Rattle.node_pool.specs.Pool.{SamePool, Appends}
use Rattle.node_pool.specs.Topic.{topic_of}
use Rattle.node_pool.specs.Taking.{HandsOut}

pub same_topic : (old new : PoolParts) → SamePool old new → topic_of new ≡ topic_of old
same_topic old new s = λ i. record { problem = s.problem i; base = s.base i; workers = s.workers i; analysts = s.analysts i }

pub one_more : (old new : PoolParts) (entry : Entry) → Appends old entry new → length new.history ≡ length old.history + 1
one_more old new entry appends = ap length appends.history ∙ length-append old.history (entry ∷ [])

pub handed_topic : (old new : PoolParts) (worker : ℕ) (work : Work) → HandsOut old worker work new → topic_of new ≡ topic_of old
handed_topic old new worker (ANode ticket) h = same_topic old new h.appends.same
handed_topic old new worker (ACandidate ticket) h = same_topic old new h.appends.same
handed_topic old new worker Nothing h = ap topic_of h.0
handed_topic old new worker Done h = ap topic_of h.0

same_count : (old new : PoolParts) → new ≡ old → length new.history ≡ length old.history
same_count old new same = ap (λ (pool : PoolParts). length pool.history) same

pub handed_count : (old new : PoolParts) (worker : ℕ) (work : Work) → HandsOut old worker work new → (length new.history ≡ length old.history) ⊎ (length new.history ≡ length old.history + 1)
handed_count old new worker (ANode ticket) h = inr (one_more old new _ h.appends)
handed_count old new worker (ACandidate ticket) h = inr (one_more old new _ h.appends)
handed_count old new worker Nothing h = inl (same_count old new h.0)
handed_count old new worker Done h = inl (same_count old new h.0)
