-- What a machine with these settings would do, as text.
use Rattle.std.specs.Prelude.{codes, ℕ, ◌+◌, ◌*◌, List, [], ◌∷◌, ◌++◌, Option, Some, None, is_some, Bool, true, false}
use Rattle.std.specs.List.{flat_map}
use Rattle.std.specs.Fmt.{decimal}
use Rattle.std.specs.declared.net.socket_addr.SocketAddr.{SocketAddr}
use Rattle.std.specs.Net.Text.{socket_text}
use Rattle.tt_span.specs.Drift.{widening}
use Rattle.tt_span.specs.Interval.{Interval}
use Rattle.tt_daemon.specs.Config.{Configuration}
use Rattle.tt_text.specs.Line.{line_of}
use Rattle.tt_host.specs.declared.clocks.HostClock.{HostClock}
use Rattle.tt_host.specs.declared.clocks.HostClock.TheVariants.{Raw, Monotonic}
use Rattle.tt_settings.specs.declared.plans.Pauses.{Pauses}
use Rattle.tt_settings.specs.declared.forms.OnBreak.{OnBreak}
use Rattle.tt_settings.specs.declared.forms.OnBreak.TheVariants.{End, Warn, Stay}
use Rattle.tt_settings.specs.Settings.{Meaning}
use Rattle.tt_settings.specs.Master.{Master}
use Rattle.tt_server.specs.Name.{has_names}
use Rattle.tt_server.specs.Descriptor.{needed_of}
use Rattle.tt_outline.specs.Rate.{gain_covered, loss_covered}
use Rattle.tt_sharing.specs.Share.{period_of}

-- a word, a space, a text and a line feed
abbrev pub word_line : List ℕ → List ℕ → List ℕ
word_line word value = word ++ codes " " ++ value ++ codes "\n"

-- a word and an address of this host
unfoldable pub address_text : List ℕ → ℕ → List ℕ
address_text word port = word ++ codes " 127.0.0.1:" ++ decimal port ++ codes "\n"

-- the number of a key
abbrev pub number_text : ℕ → List ℕ
number_text number = codes " " ++ decimal number

-- the numbers of the keys of a master, where it has some
abbrev pub keys_text : List ℕ → List ℕ
keys_text [] = []
keys_text (first ∷ others) = codes " key" ++ flat_map number_text (first ∷ others)

-- the line of a master: its address, and the numbers of the keys that are shared with it
abbrev pub master_line : Master → List ℕ
master_line master = codes "master " ++ master.address ++ keys_text master.keys ++ codes "\n"

-- the line of a path, where there is one
abbrev pub path_line : List ℕ → Option (List ℕ) → List ℕ
path_line word (Some path) = word_line word path
path_line word None = []

-- by how much a reading grows wider from one publication to the next
abbrev pub growth_of : Pauses → ℕ → ℕ
growth_of pauses drift = 2 * widening drift (period_of pauses)

-- how wide a reading is just before the next publication, beside what the master states: the round trip of its answer, widened by the drift, and the growth
abbrev pub width_beyond : Pauses → ℕ → ℕ → ℕ
width_beyond pauses drift trip = trip + widening drift trip + growth_of pauses drift

-- the line of a round trip and this width
abbrev pub width_line : Pauses → ℕ → ℕ → List ℕ
width_line pauses drift trip = line_of (codes "width") (trip ∷ width_beyond pauses drift trip ∷ [])

-- the widths behind round trips of 100 us, 1 ms, 10 ms and 100 ms
unfoldable pub widths_text : Pauses → ℕ → List ℕ
widths_text pauses drift =
    width_line pauses drift 100000
    ++ width_line pauses drift 1000000
    ++ width_line pauses drift 10000000
    ++ width_line pauses drift 100000000

-- one thread, where there is something to do
abbrev pub one_if : Bool → ℕ
one_if true = 1
one_if false = 0

-- the threads for what only some settings have: one for the file of the status, one for that of the evidence, one for the shared file, one for pages, and one for the names of masters
abbrev pub helpers_of : Bool → Bool → Bool → Bool → Bool → ℕ
helpers_of has_status has_evidence has_shared has_http has_names = one_if has_status + one_if has_evidence + one_if has_shared + one_if has_http + one_if has_names

-- the threads of so many workers and helpers, and of the daemon, the acceptor, the log, and the end of standard input
abbrev pub threads_of : ℕ → ℕ → ℕ
threads_of workers helpers = workers + helpers + 4

-- an estimate of the memory, in bytes
abbrev pub memory_of : ℕ → ℕ
memory_of workers = 4194304 + 131072 * workers

-- how long its parts wait
unfoldable pub pauses_text : Pauses → List ℕ
pauses_text p =
    line_of (codes "poll") (p.poll ∷ [])
    ++ line_of (codes "wait") (p.wait ∷ [])
    ++ line_of (codes "floor_ahead") (p.floor_ahead ∷ [])
    ++ line_of (codes "idle") (p.idle ∷ [])

-- what it is set up with
unfoldable pub config_text : Configuration → List ℕ
config_text c =
    line_of (codes "faulty") (c.faulty ∷ [])
    ++ line_of (codes "workers") (c.workers ∷ [])
    ++ line_of (codes "drift") (c.drift ∷ [])
    ++ line_of (codes "rates") (loss_covered c.drift ∷ gain_covered c.drift ∷ [])

-- the clock by which it measures
abbrev pub clock_word : HostClock → List ℕ
clock_word Raw = codes "raw"
clock_word Monotonic = codes "monotonic"

-- that clock, and how far the slewed one may go beside the raw one
unfoldable pub clocks_text : HostClock → ℕ → List ℕ
clocks_text clock slew = word_line (codes "clock") (clock_word clock) ++ line_of (codes "slew") (slew ∷ [])

-- what it is set up with, and its clocks
unfoldable pub setup_text : Configuration → HostClock → ℕ → List ℕ
setup_text c clock slew = config_text c ++ clocks_text clock slew

-- how its readings grow and how wide they become, its threads, its memory, and the descriptors that it wants
unfoldable pub sums_text : Pauses → Configuration → ℕ → List ℕ
sums_text p c helpers =
    line_of (codes "growth") (growth_of p c.drift ∷ [])
    ++ widths_text p c.drift
    ++ line_of (codes "threads") (threads_of c.workers helpers ∷ [])
    ++ line_of (codes "memory") (memory_of c.workers ∷ [])
    ++ line_of (codes "descriptors") (needed_of c.workers ∷ [])

-- the lease
unfoldable pub lease_text : Interval → List ℕ
lease_text lease = line_of (codes "lease") (lease.lo ∷ lease.hi ∷ [])

-- the interval of the stampers, where there are some
abbrev pub stampers_text : Option Interval → List ℕ
stampers_text (Some stampers) = line_of (codes "stampers") (stampers.lo ∷ stampers.hi ∷ [])
stampers_text None = []

-- what follows a sign that an assumption is broken
abbrev pub break_word : OnBreak → List ℕ
break_word End = codes "end"
break_word Warn = codes "warn"
break_word Stay = codes "stay"

-- the widest reading, where there is a limit
abbrev pub width_text : Option ℕ → List ℕ
width_text (Some width) = line_of (codes "max_width") (width ∷ [])
width_text None = []

-- where it serves pages, if it does
abbrev pub http_text : Option SocketAddr → List ℕ
http_text (Some address) = codes "http " ++ socket_text address ++ codes "\n"
http_text None = []

-- its numbers
unfoldable pub numbers_text : Meaning → List ℕ
numbers_text s =
    setup_text s.config s.clock s.slew
    ++ pauses_text s.pauses
    ++ lease_text s.lease
    ++ stampers_text s.stampers
    ++ word_line (codes "on_break") (break_word s.on_break)
    ++ width_text s.max_width
    ++ sums_text s.pauses s.config (helpers_of (is_some s.status) (is_some s.evidence) (is_some s.shared) (is_some s.http) (has_names s.masters))

-- its files
unfoldable pub files_text : Meaning → List ℕ
files_text s =
    word_line (codes "state") s.state
    ++ path_line (codes "socket") s.socket
    ++ path_line (codes "shared") s.shared
    ++ path_line (codes "status") s.status
    ++ path_line (codes "evidence") s.evidence
    ++ path_line (codes "vmclock") s.vmclock
    ++ path_line (codes "keys") s.keys

-- all of it
abbrev pub outline_text : Meaning → List ℕ
outline_text s =
    line_of (codes "machine") (s.machine ∷ [])
    ++ address_text (codes "listen") s.listen
    ++ http_text s.http
    ++ flat_map master_line s.masters
    ++ numbers_text s
    ++ files_text s
