-- cases of a test, and the parts of a conjunction and of a disjunction
mod Cases
-- a formula that says the same with no longer delay, and what the operators make of such formulas
mod Better
-- what it says of a node and its operands that the outcome of the laws is Stay
mod Staying
-- the fields of a node that keeps the limits at its place
mod Fields
-- the outcome of the laws for a node says what the node says, with no longer delay
mod Meaning
-- lists of nodes that keep the limits at their places: each means what its operands make of it, and one more node changes nothing before it
mod Chains
-- the outcome for a node that fits is a place before it, or a node that fits and that no law fits
mod Placing
-- equal nodes, the place of a node, and the search for it
mod Found
-- the passes over lists, of which the code's arrays hold the first places
mod Model
-- new places, one more than before: n is how many there were
mod Places
-- the first pass: the invariant that each node keeps
mod Rebuilding
-- where nothing fits, the first pass leaves the nodes as they are
mod Still
-- the marks of what the rules watch
mod Watched
-- what a node uses
mod Using
-- the second pass: the marked nodes, in order, under new places
mod Sweeping
-- under new places that tell operands apart no law fits that did not fit before
mod Free
-- the marked nodes under their new places: they mean what they meant, and stay good
mod Moved
-- where each node is marked, the second pass leaves all as they are; and where each is used, each is marked
mod Whole
-- the outcome of the laws for a node is Stay exactly where no law of `LawFits` fits it
mod Fitting
-- what is promised of a simplified table, shown of the passes over lists
mod Result
-- the code's arrays hold the lists of the passes
mod Arrays
-- at each turn of the first pass there is space, and no interval passes the limit of a table
mod Space
-- what the functions return makes the promised table
mod Together
-- what the code's steps come to
mod Steps
-- what a caller gets of the promise: when a table is accepted, what stays, and that a second call changes nothing
mod Promises
-- an array that a closure's calls made of another
mod Maps
