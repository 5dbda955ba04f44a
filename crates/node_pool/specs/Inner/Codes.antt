-- For the code's own contracts: how what contracts see of a pool, and of what it is about, is stored.
use Rattle.std.specs.Prelude.{ℕ, Bool, List, refl}
use Rattle.std.specs.Coded.{Coded, code_by, coded×, coded_ℕ, coded_bool, coded_list}
use Rattle.rows.specs.Parts.{ProblemParts}
use Rattle.search_core.specs.declared.entry.Entry.{Entry}
use Rattle.search_core.specs.State.{SearchState}
use Rattle.search_core.specs.Inner.Codes.{state_code}
use Rattle.node_pool.specs.Parts.{PoolParts}
use Rattle.node_pool.specs.Topic.{TopicParts}

-- what is stored of a pool: its parts
abbrev pub StoredPool : Type 0
StoredPool = ProblemParts × (SearchState × (ℕ × (ℕ × (List Entry × (SearchState × (ℕ × Bool))))))

-- a pool is stored as its parts
abbrev pub pool_code : Coded ProblemParts → Coded Entry → Coded PoolParts
pool_code problem entry =
    code_by StoredPool
    (coded× problem (coded× state_code (coded× coded_ℕ (coded× coded_ℕ (coded× (coded_list entry) (coded× state_code (coded× coded_ℕ coded_bool)))))))
    (λ p. (p.problem, (p.base, (p.workers, (p.analysts, (p.history, (p.state, (p.spare, p.short))))))))
    (λ p. record {
      problem = p.0;
      base = p.1.0;
      workers = p.1.1.0;
      analysts = p.1.1.1.0;
      history = p.1.1.1.1.0;
      state = p.1.1.1.1.1.0;
      spare = p.1.1.1.1.1.1.0;
      short = p.1.1.1.1.1.1.1;
    }) (λ _. refl)

-- what a pool is about is stored as its four parts
abbrev pub topic_code : Coded ProblemParts → Coded TopicParts
topic_code problem =
    code_by (ProblemParts × (SearchState × (ℕ × ℕ))) (coded× problem (coded× state_code (coded× coded_ℕ coded_ℕ))) (λ t. (t.problem, (t.base, (t.workers, t.analysts))))
    (λ p. record { problem = p.0; base = p.1.0; workers = p.1.1.0; analysts = p.1.1.1 }) (λ _. refl)
