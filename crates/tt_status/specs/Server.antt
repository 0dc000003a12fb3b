-- The metrics of the servers of a master, in order.
use Rattle.std.specs.Prelude.{codes, ℕ, length, map, slice_index_or, Some, None, List, [], ◌∷◌, ◌++◌}
use Rattle.std.specs.List.{range_with_len}
use Rattle.tt_status.specs.Metric.{Sample, Metric}
use Rattle.tt_status.specs.declared.metrics.Kind.{Kind}
use Rattle.tt_status.specs.declared.metrics.Kind.TheVariants.{Gauge, Counter}
use Rattle.tt_status.specs.declared.metrics.Value.{Value}
use Rattle.tt_status.specs.declared.metrics.Value.TheVariants.{Whole, Nanos}
use Rattle.tt_status.specs.declared.metrics.Subject.TheVariants.{Server}
use Rattle.tt_status.specs.declared.server_statuses.ServerAspect.{ServerAspect}
use Rattle.tt_status.specs.declared.server_statuses.ServerAspect.TheVariants.{Silence, Stratum, Distance, Age, Leap, Asked, Taken, Refused, Kisses, Width}
use Rattle.tt_status.specs.declared.server_statuses.ServerStatus.{ServerStatus}

-- a server of which nothing is known
abbrev pub no_server : ServerStatus
no_server = record { silence = 0; stratum = 0; distance = 0; age = 0; leap = 0; asked = 0; taken = 0; refused = 0; kisses = 0; width = None }

-- a number of a server
abbrev pub server_value : ServerAspect → ServerStatus → Value
server_value Silence s = Whole s.silence
server_value Stratum s = Whole s.stratum
server_value Distance s = Nanos (Some s.distance)
server_value Age s = Nanos (Some s.age)
server_value Leap s = Whole s.leap
server_value Asked s = Whole s.asked
server_value Taken s = Whole s.taken
server_value Refused s = Whole s.refused
server_value Kisses s = Whole s.kisses
server_value Width s = Nanos s.width

-- a number of the server at a place
abbrev pub server_sample : ServerAspect → List ServerStatus → ℕ → Sample
server_sample aspect servers place = record { subject = Server place; value = server_value aspect (slice_index_or servers place no_server) }

-- a metric of a number of each server, in order
unfoldable pub server_metric : ServerAspect → List ℕ → List ℕ → Kind → List ServerStatus → Metric
server_metric aspect name help kind servers = record {
  name = name;
  help = help;
  kind = kind;
  samples = map (server_sample aspect servers) (range_with_len 0 (length servers));
}

-- what the servers say of the time
abbrev pub server_time_metrics : List ServerStatus → List Metric
server_time_metrics s =
    server_metric Silence (codes "truetime_master_server_silence") (codes "The number of the reason for which the server gives no time; 0 where it gives one.") Gauge s ∷
    server_metric Stratum (codes "truetime_master_server_stratum") (codes "The stratum of the server; 0 where it is not known.") Gauge s ∷
    server_metric Distance (codes "truetime_master_server_root_distance_seconds") (codes "Half the width of what the server's last good reply states; 0 where nothing is known.") Gauge s ∷
    server_metric Age (codes "truetime_master_server_age_seconds") (codes "How long ago that reply was asked for; 0 where nothing is known.") Gauge s ∷
    server_metric Leap (codes "truetime_master_server_leap") (codes "The leap second that the server announces: 1 inserted, 2 deleted, 0 none.") Gauge s ∷
    []

-- how many requests and replies there were, and how wide the servers' spans are
abbrev pub server_count_metrics : List ServerStatus → List Metric
server_count_metrics s =
    server_metric Asked (codes "truetime_master_server_requests_total") (codes "Requests to the server.") Counter s ∷
    server_metric Taken (codes "truetime_master_server_replies_total") (codes "Replies of the server that were taken.") Counter s ∷
    server_metric Refused (codes "truetime_master_server_refused_total") (codes "Replies of the server that were refused.") Counter s ∷
    server_metric Kisses (codes "truetime_master_server_kisses_total") (codes "Replies of the server that gave a kiss code in place of the time.") Counter s ∷
    server_metric Width (codes "truetime_master_server_width_seconds") (codes "The width of the server's span; NaN where it gives no time.") Gauge s ∷
    []

-- the numbers of the servers, where there are any
abbrev pub server_metrics : List ServerStatus → List Metric
server_metrics [] = []
server_metrics (first ∷ others) = server_time_metrics (first ∷ others) ++ server_count_metrics (first ∷ others)
