-- the two columns of each node in the halves of the scratch, and what the steps on the way leave there
pub mod Steps
