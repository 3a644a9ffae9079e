-- What changes of the slots leave.
pub mod Free
pub mod Assigned
